-- How wide pieces of a paragraph are. CSS Text 3, 4.1: spaces at the end of a line hang, so their advances don't count;
-- the edges of boxes that begin or end with them do.
use Rattle.std.specs.Prelude.{Bool, true, false, ℕ, zero, suc, ◌+◌, List, [], ◌∷◌, drop, ℤ, pos, ◌+ℤ◌, ◌-ℤ◌, unsigned_abs}
use Rattle.std.specs.List.{slice_range, sum_by}
use Rattle.line_fill.specs.declared.item.FillItem.{FillItem}

-- the edges of boxes in these items
abbrev pub edges : List FillItem → ℤ
edges [] = pos 0
edges (item ∷ items) = (item.before +ℤ item.after) +ℤ edges items

-- what these items advance by
abbrev pub advances : List FillItem → ℤ
advances [] = pos 0
advances (item ∷ items) = item.advance +ℤ advances items

-- how many items there are up to the last one that is no space; none in a piece of spaces alone
abbrev pub solid_at : Bool → ℕ → ℕ
solid_at true zero = zero
solid_at true (suc n) = suc (suc n)
solid_at false n = suc n

abbrev pub solid : List FillItem → ℕ
solid [] = zero
solid (item ∷ items) = solid_at item.space (solid items)

-- a piece is as wide as its edges and advances, without the advances of the spaces at its end
abbrev pub width_of : List FillItem → ℤ
width_of piece = (edges piece +ℤ advances piece) -ℤ advances (drop (solid piece) piece)

-- the piece from one place up to another
abbrev pub width : List FillItem → ℕ → ℕ → ℤ
width items from to = width_of (slice_range items from to)

-- all lengths of some items, without their signs
abbrev pub lengths_of : FillItem → ℕ
lengths_of item = unsigned_abs item.advance + (unsigned_abs item.before + unsigned_abs item.after)

abbrev pub spread : List FillItem → ℕ
spread items = sum_by lengths_of items
