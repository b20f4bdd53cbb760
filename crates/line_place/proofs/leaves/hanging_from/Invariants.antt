use Rattle.std.proofs.Common.{◌≡◌, ◌≤◌, drop, length, true}
use Rattle.line_place.specs.Leaves.{are_spaces}
use Rattle.line_place.proofs.leaves.hanging_from.Given as goal

abbrev pub invariant-loop-from : goal.invariant-loop-from
invariant-loop-from g l = (l.from ≤ length (g.S.LineSource.items l.source)) × (are_spaces (drop l.from (g.S.LineSource.items l.source)) ≡ true)

abbrev pub decreases-loop-from : goal.decreases-loop-from
decreases-loop-from g l = l.from
