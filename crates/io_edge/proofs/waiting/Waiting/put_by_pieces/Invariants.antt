use Rattle.std.proofs.Common.{◌≤◌, ◌++◌, length}
use Rattle.io_edge.specs.Edge.{AppendsUpTo}
use Rattle.io_edge.proofs.waiting.Waiting.put_by_pieces.Given as goal

-- what is not written yet waits, or is the rest
abbrev pub invariant-loop-rest : goal.invariant-loop-rest
invariant-loop-rest g l = record {
  written : AppendsUpTo (g.K.Sink.held l.fn.sink) (g.K.Sink.held l.sink) (l.fn.self ++ l.fn.bytes) (l.self ++ l.rest);
  later : g.K.Sink.faults l.fn.sink ≤ g.K.Sink.faults l.sink;
}

abbrev pub decreases-loop-rest : goal.decreases-loop-rest
decreases-loop-rest g l = length l.rest
