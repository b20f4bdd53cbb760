use Rattle.std.proofs.Common.{ℕ, ◌<◌, slice_index_or}
use Rattle.para_lines.specs.Standing.{Standing}
use Rattle.para_lines.specs.Text.{IsUnitFrom}
use Rattle.para_lines.proofs.text.are_of.Given as goal

-- those before the place are
abbrev pub invariant-loop-place : goal.invariant-loop-place
invariant-loop-place l = (k : ℕ) (d : Standing) → k < l.place → IsUnitFrom l.source l.name (slice_index_or l.standings k d)
