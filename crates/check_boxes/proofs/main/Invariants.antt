use Rattle.check_boxes.proofs.main.Given as goal

-- the ledger of the counter is that of the blank
abbrev pub ghosts-counted : goal.ghosts-counted
ghosts-counted a = record { name = a.blank.name; parts = a.blank.parts }
