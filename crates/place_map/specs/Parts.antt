-- Trees of fragments on the page, without where they lie in memory.
use Rattle.std.specs.Prelude.{ℕ, suc, ◌+◌, List, [], ◌∷◌}
use Rattle.wm_modes.specs.declared.rects.Rect.{Rect}
use Rattle.fragment_types.specs.declared.item.BoxName.{BoxName}
use Rattle.fragment_types.specs.Fragment.{Kind}

-- fragments that stand one after the other, each with those inside it
pub data Parts : Type 0 where
  none : Parts
  part : (name : BoxName) (rect : Rect) (kind : Kind) (inner next : Parts) → Parts

-- a fragment, with those inside it
pub record Part : Type 0 where
  pub name : BoxName
  pub rect : Rect
  pub kind : Kind
  pub inner : Parts

-- a fragment before others
abbrev pub before : Part → (next : Parts) → Parts
before p next = part p.name p.rect p.kind p.inner next

-- fragments before others
abbrev pub followed : List Part → (next : Parts) → Parts
followed [] next = next
followed (p ∷ parts) next = before p (followed parts next)

abbrev pub parts_of : List Part → Parts
parts_of parts = followed parts none

-- how many there are, with those inside them
abbrev pub count : Parts → ℕ
count none = 0
count (part name rect kind inner next) = suc (count inner + count next)
