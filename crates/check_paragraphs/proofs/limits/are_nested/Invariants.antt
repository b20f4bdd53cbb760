use Rattle.std.proofs.Common.{ℕ, ◌<◌}
use Rattle.line_place.specs.Marks.{box_at}
use Rattle.line_place.specs.Reach.{IsBefore}
use Rattle.check_paragraphs.proofs.limits.are_nested.Given as goal

-- those before the place are
abbrev pub invariant-loop-place : goal.invariant-loop-place
invariant-loop-place l = (k : ℕ) → k < l.place → IsBefore k (box_at l.boxes k).outer
