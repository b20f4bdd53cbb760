use Rattle.std.proofs.Common.{◌≤◌, ◌++◌, drop}
use Rattle.io_edge.specs.Edge.{AppendsUpTo}
use Rattle.listing.specs.Runs.{characters, comma, glyphs, told}
use Rattle.listing.proofs.runs.put_glyphs.Given as goal

-- the units so far are put, and those of the rest are left
abbrev pub invariant-loop-place : goal.invariant-loop-place
invariant-loop-place g l = record {
  put : AppendsUpTo (g.K.Sink.held l.initial.sink) (g.K.Sink.held l.sink) (l.initial.waiting ++ glyphs l.first l.unit.glyphs) (l.waiting ++ told characters l.sign comma (drop l.place l.unit.glyphs));
  later : g.K.Sink.faults l.initial.sink ≤ g.K.Sink.faults l.sink;
}
