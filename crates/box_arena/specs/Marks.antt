-- Which boxes are marked, and which a climb has seen.
use Rattle.std.specs.Prelude.{◌≡◌, ℕ, Bool, true, false, Option, Some, None}
use Rattle.box_arena.specs.declared.entry.Mark.{Mark}
use Rattle.box_arena.specs.Links.{Linking, Reaches}

-- the mark of the box under each key
abbrev pub Marking : Type 0
Marking = ℕ → Option Mark

abbrev pub is_marked : Option Mark → Bool
is_marked None = false
is_marked (Some mark) = mark.marked

abbrev pub is_seen : Option Mark → Bool
is_seen None = false
is_seen (Some mark) = mark.seen

-- the box and every box above it are marked, all others are as they were
pub record MarksUp (s : Linking) (old new : Marking) (key : ℕ) : Type 0 where
  pub above : (k : ℕ) → Reaches s k key → is_marked (new k) ≡ true
  pub others : (k : ℕ) → (Reaches s k key → ⊥) → is_marked (new k) ≡ is_marked (old k)

-- no climb goes on
abbrev pub IsStill : Marking → Type 0
IsStill m = (k : ℕ) → is_seen (m k) ≡ false
