use Rattle.std.proofs.Common.{◌≡◌, ◌≤◌, drop, length, map, true}
use Rattle.line_place.specs.Leaves.{are_spaces}
use Rattle.para_lines.specs.Text.{bare}
use Rattle.para_lines.proofs.text.without_spaces.Given as goal

abbrev pub invariant-loop-count : goal.invariant-loop-count
invariant-loop-count l = (l.count ≤ length l.standings) × (are_spaces (drop l.count (map bare l.standings)) ≡ true)

abbrev pub decreases-loop-count : goal.decreases-loop-count
decreases-loop-count l = l.count
