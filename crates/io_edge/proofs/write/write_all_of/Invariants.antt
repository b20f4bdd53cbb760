use Rattle.std.proofs.Common.{ℕ, ◌≤◌, List, length, Option}
use Rattle.io_edge.specs.Edge.{AppendsUpTo}
use Rattle.io_edge.proofs.write.write_all_of.Given as goal

-- what is not written yet is the rest
pub record IsWriting (old now : Option (List ℕ)) (before faults : ℕ) (bytes rest : List ℕ) : Type 0 where
  pub so_far : AppendsUpTo old now bytes rest
  pub later : before ≤ faults

abbrev pub invariant-loop-rest : goal.invariant-loop-rest
invariant-loop-rest g l = IsWriting (g.K.Sink.held l.fn.sink) (g.K.Sink.held l.sink) (g.K.Sink.faults l.fn.sink) (g.K.Sink.faults l.sink) l.bytes l.rest

abbrev pub decreases-loop-rest : goal.decreases-loop-rest
decreases-loop-rest g l = length l.rest
