use Rattle.check_run.proofs.flowing.a_hidden_element_ties_its_document.Given as goal

-- the ledger of each counter is that of its blank
abbrev pub ghosts-flowed-L-Ledger : goal.ghosts-flowed-L-Ledger
ghosts-flowed-L-Ledger g a = record { name = a.first.name; parts = a.first.parts }

abbrev pub ghosts-flowed-M-Ledger : goal.ghosts-flowed-M-Ledger
ghosts-flowed-M-Ledger g a = record { name = a.second.name; parts = a.second.parts }
