use Rattle.std.proofs.Common.{◌≡◌, ◌+◌, ◌-◌, ◌<◌, ◌≤◌, length, drop}
use Rattle.line_place.proofs.RunLaws.{run_size}
use Rattle.line_place.proofs.runs.run_length.Given as goal

abbrev pub invariant-loop-length : goal.invariant-loop-length
invariant-loop-length g l =
    (0 < l.length) × (l.length ≤ length l.leaves) × (run_size l.leaves ≡ l.length - 1 + run_size (drop (l.length - 1) l.leaves))

abbrev pub decreases-loop-length : goal.decreases-loop-length
decreases-loop-length g l = length l.leaves - l.length
