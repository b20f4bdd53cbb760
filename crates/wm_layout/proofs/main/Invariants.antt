use Rattle.wm_layout.proofs.main.Given as goal

-- the ledger of each counter is that of its blank
abbrev pub ghosts-answer-L-Ledger : goal.ghosts-answer-L-Ledger
ghosts-answer-L-Ledger a = record { name = a.first.name; parts = a.first.parts }

abbrev pub ghosts-answer-M-Ledger : goal.ghosts-answer-M-Ledger
ghosts-answer-M-Ledger a = record { name = a.second.name; parts = a.second.parts }
