use Rattle.std.proofs.Common.{ℕ, ◌≤◌, ◌-◌, List, length, Option}
use Rattle.std.specs.Io.KnownBytes.{Consumes}
use Rattle.io_edge.proofs.read.read_all.Given as goal

-- what was taken is what is kept, and it is not too long
pub record IsReading (old now : Option (List ℕ)) (before faults : ℕ) (taken : List ℕ) (limit : ℕ) : Type 0 where
  pub so_far : Consumes old now taken
  pub fits : length taken ≤ limit
  pub later : before ≤ faults

abbrev pub invariant-loop-bytes : goal.invariant-loop-bytes
invariant-loop-bytes g l = IsReading (g.S.Source.left l.fn.source) (g.S.Source.left l.source) (g.S.Source.faults l.fn.source) (g.S.Source.faults l.source) l.bytes.items l.limit

abbrev pub decreases-loop-bytes : goal.decreases-loop-bytes
decreases-loop-bytes g l = l.limit - length l.bytes.items
