use Rattle.check_run.proofs.retired.a_retired_face_is_dropped_at_once.Given as goal

-- the ledger of each counter is that of its blank
abbrev pub ghosts-given_up-L-Ledger : goal.ghosts-given_up-L-Ledger
ghosts-given_up-L-Ledger g a = record { name = a.first.name; parts = a.first.parts }

abbrev pub ghosts-given_up-M-Ledger : goal.ghosts-given_up-M-Ledger
ghosts-given_up-M-Ledger g a = record { name = a.second.name; parts = a.second.parts }
