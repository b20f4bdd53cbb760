use Rattle.check_face.proofs.page.a_page_is_laid_out_by_the_face.Given as goal

-- the ledger of each counter is that of its blank
abbrev pub ghosts-run_with_face-L-Ledger : goal.ghosts-run_with_face-L-Ledger
ghosts-run_with_face-L-Ledger g a = record { name = a.first.name; parts = a.first.parts }

abbrev pub ghosts-run_with_face-M-Ledger : goal.ghosts-run_with_face-M-Ledger
ghosts-run_with_face-M-Ledger g a = record { name = a.second.name; parts = a.second.parts }
