use Rattle.std.proofs.Common.{◌≡◌, map, take}
use Rattle.relayout.specs.Content.{child_box}
use Rattle.relayout.proofs.content.children_of.Given as goal

abbrev pub invariant-loop-child : goal.invariant-loop-child
invariant-loop-child l = l.made.items ≡ map child_box (take l.child-index l.laid)
