use Rattle.check_edits.proofs.jobs.tied_documents_are_refused.Given as goal

-- the ledger of each counter is that of its blank
abbrev pub ghosts-written-L-Ledger : goal.ghosts-written-L-Ledger
ghosts-written-L-Ledger g a = record { name = a.first.name; parts = a.first.parts }

abbrev pub ghosts-written-M-Ledger : goal.ghosts-written-M-Ledger
ghosts-written-M-Ledger g a = record { name = a.second.name; parts = a.second.parts }
