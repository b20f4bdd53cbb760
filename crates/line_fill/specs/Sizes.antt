-- Intrinsic sizes. CSS 2, 10.3.5: the max-content size is that of the widest piece between forced breaks, the
-- min-content size that of the widest piece between any breaks.
use Rattle.std.specs.Prelude.{Bool, true, false, List, [], ◌∷◌, ℤ, pos}
use Rattle.std.specs.Int.{int_max}
use Rattle.wm_units.specs.Numbers.{cap_size}
use Rattle.fragment_types.specs.declared.breaking.Breaking.{Breaking}
use Rattle.fragment_types.specs.declared.breaking.Breaking.TheVariants.{No, May, Must}
use Rattle.line_fill.specs.declared.item.FillItem.{FillItem}
use Rattle.line_fill.specs.declared.item.Intrinsic.{Intrinsic}
use Rattle.line_fill.specs.Item.{width_of}

-- where a piece ends: at forced breaks alone, or at all breaks
abbrev pub is_forced : Breaking → Bool
is_forced No = false
is_forced May = false
is_forced Must = true

abbrev pub is_allowed : Breaking → Bool
is_allowed No = false
is_allowed May = true
is_allowed Must = true

-- an item in front of the first of some pieces
abbrev pub in_front : FillItem → List (List FillItem) → List (List FillItem)
in_front item [] = (item ∷ []) ∷ []
in_front item (piece ∷ pieces) = (item ∷ piece) ∷ pieces

abbrev pub cut_behind : Bool → FillItem → List (List FillItem) → List (List FillItem)
cut_behind true item pieces = (item ∷ []) ∷ pieces
cut_behind false item pieces = in_front item pieces

-- the items cut behind each break of a kind
abbrev pub pieces : (Breaking → Bool) → List FillItem → List (List FillItem)
pieces cuts [] = []
pieces cuts (item ∷ items) = cut_behind (cuts item.end) item (pieces cuts items)

-- the greatest width of some pieces, at least 0
abbrev pub widest : List (List FillItem) → ℤ
widest [] = pos 0
widest (piece ∷ pieces) = int_max (width_of piece) (widest pieces)

-- both sizes are used sizes, which are held
abbrev pub intrinsic : List FillItem → Intrinsic
intrinsic items = record { min = cap_size (widest (pieces is_allowed items)); max = cap_size (widest (pieces is_forced items)) }
