use Rattle.show_paragraph.proofs.main.Given as goal

-- the ledger of each counter is that of its blank
abbrev pub ghosts-show-L-Ledger : goal.ghosts-show-L-Ledger
ghosts-show-L-Ledger a = record { name = a.first.name; parts = a.first.parts }

abbrev pub ghosts-show-M-Ledger : goal.ghosts-show-M-Ledger
ghosts-show-M-Ledger a = record { name = a.second.name; parts = a.second.parts }
