-- The widest of some pieces, read item by item.
use Rattle.std.specs.Prelude.{Bool, true, false, ℕ, ◌+◌, pos, ◌+ℤ◌, unsigned_abs}
use Rattle.std.specs.Int.{int_max}
use Rattle.line_fill.specs.declared.item.FillItem.{FillItem}
use Rattle.line_fill.specs.declared.widest.Widest.{Widest}

abbrev pub begun : Widest
begun = record { most = pos 0; width = pos 0; hanging = pos 0 }

-- one item more in the last piece. Spaces hang as long as nothing else stands behind them.
abbrev pub joined_at : Bool → Widest → FillItem → Widest
joined_at true widest item = record { most = widest.most; width = widest.width +ℤ (item.before +ℤ item.after); hanging = widest.hanging +ℤ item.advance }
joined_at false widest item =
    record { most = widest.most; width = widest.width +ℤ ((item.before +ℤ item.after) +ℤ (widest.hanging +ℤ item.advance)); hanging = pos 0 }

abbrev pub joined : Widest → FillItem → Widest
joined widest item = joined_at item.space widest item

-- the last piece ends
abbrev pub cut : Widest → Widest
cut widest = record { most = int_max widest.most widest.width; width = pos 0; hanging = pos 0 }

abbrev pub cut_if : Bool → Widest → Widest
cut_if true widest = cut widest
cut_if false widest = widest

abbrev pub after : Widest → FillItem → Bool → Widest
after widest item ends = cut_if ends (joined widest item)

-- the lengths of the last piece, without their signs
abbrev pub span_of : Widest → ℕ
span_of widest = unsigned_abs widest.width + unsigned_abs widest.hanging
