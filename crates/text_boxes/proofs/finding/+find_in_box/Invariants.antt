-- The children before the next one are gone through.
use Rattle.text_boxes.proofs.Walk.{IsOnWay}
use Rattle.text_boxes.proofs.finding.+find_in_box.Given as goal

abbrev pub decreases-find_in_box : goal.decreases-find_in_box
decreases-find_in_box g l = l.depth

abbrev pub invariant-loop : goal.invariant-loop
invariant-loop g l = IsOnWay l.arena.slots l.fn.key l.node l.next l.found
