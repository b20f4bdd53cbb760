-- What the places of a paragraph tell, and how widths are read off them.
use Rattle.std.specs.Prelude.{◌≡◌, Bool, true, false, ℕ, suc, ◌+◌, ◌≤◌, ◌^◌, List, take, length, Some, slice_get, ℤ, ◌+ℤ◌, ◌-ℤ◌, unsigned_abs}
use Rattle.line_fill.specs.declared.item.FillItem.{FillItem}
use Rattle.line_fill.specs.declared.sums.Place.{Place}
use Rattle.line_fill.specs.Item.{edges, advances, solid}

-- what a place tells of the items before it
abbrev pub place_before : List FillItem → ℕ → Place
place_before items k = record { edges = edges (take k items); advances = advances (take k items); solid = solid (take k items) }

-- places stand for items: one before each item, and one behind the last
pub record StandFor (items : List FillItem) (places : List Place) : Type 0 where
  pub count : length places ≡ suc (length items)
  pub each : (k : ℕ) → k ≤ length items → slice_get places k ≡ Some (place_before items k)

-- no place tells of longer lengths, nor of more items than stand before it
pub record IsNear (k : ℕ) (place : Place) : Type 0 where
  pub lengths : unsigned_abs place.edges + unsigned_abs place.advances ≤ 2 ^ 60
  pub solid : place.solid ≤ k

abbrev pub AreNear : List Place → Type 0
AreNear places = (k : ℕ) (place : Place) → slice_get places k ≡ Some place → IsNear k place

-- the place behind one item more, which is the one of this number
abbrev pub solid_after : Bool → ℕ → ℕ → ℕ
solid_after true before count = before
solid_after false before count = count

abbrev pub place_after : Place → FillItem → ℕ → Place
place_after place item count =
    record { edges = place.edges +ℤ (item.before +ℤ item.after); advances = place.advances +ℤ item.advance; solid = solid_after item.space place.solid count }

-- the width of a piece by its start, its end, and the place behind its last item that is no space, or its start where there
-- is none
abbrev pub width_between : Place → Place → Place → ℤ
width_between start end content = (end.edges -ℤ start.edges) +ℤ (content.advances -ℤ start.advances)
