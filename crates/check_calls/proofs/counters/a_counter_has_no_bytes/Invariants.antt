use Rattle.check_calls.proofs.counters.a_counter_has_no_bytes.Given as goal

-- the ledger of the counter is that of the blank
abbrev pub ghosts-counted : goal.ghosts-counted
ghosts-counted g a = record { name = a.blank.name; parts = a.blank.parts }
