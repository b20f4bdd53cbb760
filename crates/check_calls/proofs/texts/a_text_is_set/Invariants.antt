-- The boxes stand.
use Rattle.box_arena.specs.Reusing.{IsTree}
use Rattle.check_calls.proofs.texts.a_text_is_set.Given as goal

abbrev pub invariant-loop-node : goal.invariant-loop-node
invariant-loop-node g l = IsTree l.page.arena.slots l.page.root
