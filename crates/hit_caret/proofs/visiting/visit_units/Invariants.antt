use Rattle.std.proofs.Common.{◌≡◌, drop, fold, pos}
use Rattle.hit_caret.specs.Cells.{cells_from}
use Rattle.hit_caret.specs.Near.{IsDistance}
use Rattle.hit_caret.proofs.visiting.visit_units.Given as goal

-- the units so far are seen
abbrev pub invariant-loop-unit : goal.invariant-loop-unit
invariant-loop-unit g l = record {
  seen : fold g.V.CellVisitor.seen l.visitor (cells_from l.run l.distance (drop l.unit-index l.units)) ≡ fold g.V.CellVisitor.seen l.initial.visitor (cells_from l.run (pos 0) l.units);
  from : IsDistance l.distance;
}
