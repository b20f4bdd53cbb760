-- From the next one on boxes stand.
use Rattle.check_calls.proofs.Rows.{IsRow}
use Rattle.check_calls.proofs.texts.told.Given as goal

abbrev pub invariant-loop : goal.invariant-loop
invariant-loop l = IsRow l.page.arena.slots l.next
