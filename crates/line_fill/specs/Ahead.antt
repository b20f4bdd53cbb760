-- What a line can still reach from a place on, told by two lengths.
use Rattle.std.specs.Prelude.{◌≡◌, Bool, true, false, ◌||◌, ℕ, suc, ◌-◌, ◌≤◌, ◌^◌, ⊤, List, take, drop, length, max, [], ◌∷◌, Option, None, Some, slice_get, ℤ, ◌+ℤ◌, ◌-ℤ◌, int_le, unsigned_abs}
use Rattle.std.specs.Int.{int_min}
use Rattle.std.specs.List.{list_any}
use Rattle.fragment_types.specs.declared.breaking.Breaking.{Breaking}
use Rattle.fragment_types.specs.declared.breaking.Breaking.TheVariants.{No, May, Must}
use Rattle.line_fill.specs.declared.item.FillItem.{FillItem}
use Rattle.line_fill.specs.declared.sums.Place.{Place}
use Rattle.line_fill.specs.declared.ahead.Ahead.{Ahead}
use Rattle.line_fill.specs.Item.{solid}
use Rattle.line_fill.specs.Filling.{ends, fits, break_before}
use Rattle.line_fill.specs.Sums.{place_before}

-- whether a line fits: its end is so far, and its start, from where lengths are counted
abbrev pub is_within : Option ℤ → ℤ → ℤ → Bool
is_within None start available = false
is_within (Some z) start available = int_le (z -ℤ start) available

-- whether a line that begins at `start` fits up to some end ahead. Up to here its content ends at `content`.
abbrev pub reaches : Ahead → Place → Place → ℤ → Bool
reaches ahead start content available =
    is_within ahead.content (start.edges +ℤ start.advances) available
    || is_within ahead.spaces ((start.edges +ℤ start.advances) -ℤ content.advances) available

-- what lies ahead of a place tells of each line that begins at it or before it whether it fits up to some end behind the place
abbrev pub Tells : List FillItem → ℕ → Ahead → Type 0
Tells items place ahead = (available : ℤ) (from : ℕ) → from ≤ place
    → reaches ahead (place_before items from) (place_before items (max from (solid (take place items)))) available ≡ list_any (fits available items from) (ends items place)

-- lengths that the code's sums hold
abbrev pub Within : ℕ → Option ℤ → Type 0
Within limit None = ⊤
Within limit (Some z) = unsigned_abs z ≤ limit

pub record IsNearAhead (ahead : Ahead) : Type 0 where
  pub spaces : Within (2 ^ 60) ahead.spaces
  pub content : Within (2 ^ 61) ahead.content

-- what lies ahead of each place of a paragraph, the last place first
pub record AreAhead (items : List FillItem) (aheads : List Ahead) : Type 0 where
  pub count : length aheads ≡ suc (length items)
  pub each : (k : ℕ) (ahead : Ahead) → slice_get aheads k ≡ Some ahead → Tells items (length items - k) ahead × IsNearAhead ahead

-- one step from right to left: the place behind an item may be an end, and then the item stands before it
abbrev pub lesser : Option ℤ → Option ℤ → Option ℤ
lesser None other = other
lesser (Some a) None = Some a
lesser (Some a) (Some b) = Some (int_min a b)

abbrev pub moved : Option ℤ → ℤ → Option ℤ
moved None by = None
moved (Some z) by = Some (z +ℤ by)

abbrev pub with_end : Ahead → Breaking → ℤ → Ahead
with_end ahead No edges = ahead
with_end ahead May edges = record { spaces = lesser ahead.spaces (Some edges); content = ahead.content }
with_end ahead Must edges = record { spaces = Some edges; content = None }

abbrev pub behind : Ahead → Bool → ℤ → Ahead
behind ahead true advances = ahead
behind ahead false advances = record { spaces = None; content = lesser ahead.content (moved ahead.spaces advances) }

abbrev pub nothing : Ahead
nothing = record { spaces = None; content = None }

-- the end of the text breaks as a forced break does
abbrev pub break_of : List FillItem → Breaking
break_of [] = Must
break_of (item ∷ items) = break_before items item.end

abbrev pub break_at : List FillItem → ℕ → Breaking
break_at items place = break_of (drop place items)
