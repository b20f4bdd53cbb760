use Rattle.std.proofs.Common.{ℕ, ◌<◌, slice_index_or}
use Rattle.line_place.specs.declared.line.LineItem.{LineItem}
use Rattle.line_place.specs.Line.{item_of}
use Rattle.line_place.specs.Reach.{IsBefore}
use Rattle.check_paragraphs.proofs.limits.are_inside.Given as goal

-- those before the place are
abbrev pub invariant-loop-item : goal.invariant-loop-item
invariant-loop-item l = (k : ℕ) (d : LineItem) → k < l.item-index → IsBefore l.count (item_of (slice_index_or l.items k d)).inside
