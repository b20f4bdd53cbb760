use Rattle.std.proofs.Common.{◌≡◌, ◌<◌, ℕ, slice_index_or}
use Rattle.para_lines.specs.Standing.{Standing}
use Rattle.para_lines.proofs.seated_items.SeatedItemsLineSource.is_level_zero.Given as goal

-- those before the place do
abbrev pub invariant-loop-place : goal.invariant-loop-place
invariant-loop-place l = (k : ℕ) (d : Standing) → k < l.place → (slice_index_or l.self.standings k d).level ≡ 0
