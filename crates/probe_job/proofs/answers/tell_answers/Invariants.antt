use Rattle.std.proofs.Common.{◌≤◌}
use Rattle.place_map.specs.Placed.{placed_of}
use Rattle.probe_job.proofs.Puts.{ArePut}
use Rattle.probe_job.proofs.answers.tell_answers.Given as goal

-- the answers so far are put, and those to the rest are left
abbrev pub invariant-loop-probe : goal.invariant-loop-probe
invariant-loop-probe g l = record {
  put : ArePut (placed_of l.placed) l.probes (g.K.Sink.held l.initial.sink) (g.K.Sink.held l.sink) l.waiting l.probe-index;
  later : g.K.Sink.faults l.initial.sink ≤ g.K.Sink.faults l.sink;
}
