use Rattle.std.proofs.Common.{◌≡◌, ◌≤◌, map, drop, length, unsigned_abs}
use Rattle.line_place.specs.Reach.{item_reach, total}
use Rattle.line_place.specs.LineText.{extent_in}
use Rattle.para_lines.specs.Text.{bare}
use Rattle.para_lines.proofs.text.extent_of.Given as goal

abbrev pub invariant-loop-from : goal.invariant-loop-from
invariant-loop-from l = record {
  is : l.extent ≡ extent_in (drop l.from (map bare l.standings));
  near : unsigned_abs l.extent ≤ total item_reach (drop l.from (map bare l.standings));
  within : l.from ≤ length l.standings;
}

abbrev pub decreases-loop-from : goal.decreases-loop-from
decreases-loop-from l = l.from
