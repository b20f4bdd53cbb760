use Rattle.std.proofs.Common.{◌≡◌, map, drop}
use Rattle.std.specs.Int.{int_max}
use Rattle.std.specs.List.{flat_map, fold}
use Rattle.line_place.specs.Marks.{mark_of}
use Rattle.line_place.specs.Placing.{under_of}
use Rattle.line_place.proofs.measure.line_under.Given as goal

abbrev pub invariant-loop-mark : goal.invariant-loop-mark
invariant-loop-mark g l =
    fold int_max l.under (flat_map (under_of l.boxes) (drop l.mark-index (map mark_of l.marks))) ≡ fold int_max l.fn.strut (flat_map (under_of l.boxes) (map mark_of l.marks))
