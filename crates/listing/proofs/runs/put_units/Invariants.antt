use Rattle.std.proofs.Common.{◌≤◌, ◌++◌, drop}
use Rattle.io_edge.specs.Edge.{AppendsUpTo}
use Rattle.listing.specs.Runs.{comma, told, unit_glyphs, units}
use Rattle.listing.proofs.runs.put_units.Given as goal

-- the units so far are put, and those of the rest are left
abbrev pub invariant-loop-unit : goal.invariant-loop-unit
invariant-loop-unit g l = record {
  put : AppendsUpTo (g.K.Sink.held l.initial.sink) (g.K.Sink.held l.sink) (l.initial.waiting ++ units l.first l.units) (l.waiting ++ told unit_glyphs l.sign comma (drop l.unit-index l.units));
  later : g.K.Sink.faults l.initial.sink ≤ g.K.Sink.faults l.sink;
}
