use Rattle.check_run.proofs.edited.what_no_edit_touched_is_not_asked_for_again.Given as goal

-- the ledger of each counter is that of its blank
abbrev pub ghosts-asked_by-L-Ledger : goal.ghosts-asked_by-L-Ledger
ghosts-asked_by-L-Ledger g a = record { name = a.first.name; parts = a.first.parts }

abbrev pub ghosts-asked_by-M-Ledger : goal.ghosts-asked_by-M-Ledger
ghosts-asked_by-M-Ledger g a = record { name = a.second.name; parts = a.second.parts }
