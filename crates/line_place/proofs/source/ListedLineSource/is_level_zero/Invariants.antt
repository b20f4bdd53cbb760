use Rattle.std.proofs.Common.{◌≡◌, ◌<◌, ℕ, slice_index_or}
use Rattle.line_place.specs.declared.line.LineItem.{LineItem}
use Rattle.line_place.proofs.source.ListedLineSource.is_level_zero.Given as goal

-- those before the place do
abbrev pub invariant-loop-item : goal.invariant-loop-item
invariant-loop-item l = (k : ℕ) (d : LineItem) → k < l.item-index → (slice_index_or l.item-items k d).level ≡ 0
