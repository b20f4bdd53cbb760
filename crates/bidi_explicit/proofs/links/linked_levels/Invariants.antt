use Rattle.std.proofs.Common.{◌≤◌, length}
use Rattle.bidi_explicit.specs.Links.{IsLinked}
use Rattle.bidi_explicit.specs.Stack.{stacked}
use Rattle.bidi_explicit.proofs.links.linked_levels.Given as goal

abbrev pub invariant-loop-i : goal.invariant-loop-i
invariant-loop-i l = record {
  linked : IsLinked l.levels l.i l.links.links.items (stacked l.links.pending) l.links.next;
  within : l.i ≤ length l.levels.original.items;
}

abbrev pub decreases-loop-i : goal.decreases-loop-i
decreases-loop-i l = l.i
