use Rattle.std.proofs.Common.{ℕ, ◌<◌, slice_index_or}
use Rattle.fragment_types.specs.declared.item.Item.{Item}
use Rattle.check_paragraphs.specs.Bounds.{IsBoundedItem}
use Rattle.check_paragraphs.proofs.wholes.have_bounds.Given as goal

-- those before the place have
abbrev pub invariant-loop-item : goal.invariant-loop-item
invariant-loop-item l = (k : ℕ) (d : Item) → k < l.item-index → IsBoundedItem (slice_index_or l.items k d)
