use Rattle.check_run.proofs.shown.a_shifted_page_asks_no_face.Given as goal

-- the ledger of each counter is that of its blank
abbrev pub ghosts-shown_twice-L-Ledger : goal.ghosts-shown_twice-L-Ledger
ghosts-shown_twice-L-Ledger g a = record { name = a.first.name; parts = a.first.parts }

abbrev pub ghosts-shown_twice-M-Ledger : goal.ghosts-shown_twice-M-Ledger
ghosts-shown_twice-M-Ledger g a = record { name = a.second.name; parts = a.second.parts }
