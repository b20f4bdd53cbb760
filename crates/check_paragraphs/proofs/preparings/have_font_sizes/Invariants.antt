use Rattle.std.proofs.Common.{ℕ, ◌<◌, slice_index_or}
use Rattle.fragment_types.specs.declared.item.Item.{Item}
use Rattle.fragment_types.specs.Item.{entry_of}
use Rattle.para_prepare.specs.Limits.{HasFontSize}
use Rattle.check_paragraphs.proofs.preparings.have_font_sizes.Given as goal

-- those before the place have
abbrev pub invariant-loop-item : goal.invariant-loop-item
invariant-loop-item l = (k : ℕ) (d : Item) → k < l.item-index → HasFontSize (entry_of (slice_index_or l.items k d))
