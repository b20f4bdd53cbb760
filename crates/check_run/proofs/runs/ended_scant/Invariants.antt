use Rattle.check_run.proofs.runs.ended_scant.Given as goal

-- the ledger of each counter is that of its blank
abbrev pub ghosts-counted-L-Ledger : goal.ghosts-counted-L-Ledger
ghosts-counted-L-Ledger g a = record { name = a.first.name; parts = a.first.parts }

abbrev pub ghosts-counted-M-Ledger : goal.ghosts-counted-M-Ledger
ghosts-counted-M-Ledger g a = record { name = a.second.name; parts = a.second.parts }
