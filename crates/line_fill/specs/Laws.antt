-- What the definitions come to, over all paragraphs.
use Rattle.std.specs.Prelude.{◌≡◌, true, false, ℕ, ◌≤◌, ◌<◌, ◌⊎◌, List, [], ◌∷◌, length, ℤ}
use Rattle.line_fill.specs.declared.item.FillItem.{FillItem}
use Rattle.line_fill.specs.Filling.{lines, line_end, ends, fits, Divide}

-- the lines divide the items: in order, each once, none without an item
abbrev pub DivideItems : Type 0
DivideItems = (available : ℤ) (items : List FillItem) → Divide 0 (length items) (lines available items)

-- a place is one of these
abbrev pub IsAmong : ℕ → List ℕ → Type 0
IsAmong place [] = ⊥
IsAmong place (other ∷ others) = (place ≡ other) ⊎ IsAmong place others

-- a line ends where a break is allowed; it fits up to no place further on; and where it doesn't fit itself, no place is nearer
pub record IsLineEnd (available : ℤ) (items : List FillItem) (from end : ℕ) : Type 0 where
  pub allowed : IsAmong end (ends items from)
  pub last : (place : ℕ) → IsAmong place (ends items from) → fits available items from place ≡ true → place ≤ end
  pub first : fits available items from end ≡ false → (place : ℕ) → IsAmong place (ends items from) → end ≤ place

abbrev pub EndWhereAllowed : Type 0
EndWhereAllowed = (available : ℤ) (items : List FillItem) (from : ℕ) → from < length items → IsLineEnd available items from (line_end available items from)
