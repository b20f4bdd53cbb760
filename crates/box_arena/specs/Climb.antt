-- A climb to the top in two passes: the first marks each box and remembers that it was there, the second forgets that.
use Rattle.std.specs.Prelude.{◌≡◌, ℕ, ◌⊎◌, Bool, true, false, not, Option, Some, None, IsSome, count_by}
use Rattle.box_arena.specs.Links.{Linking, Reaches, parent_of}
use Rattle.box_arena.specs.Marks.{Marking, is_marked, is_seen}
use Rattle.box_arena.specs.At.{Slots}
use Rattle.box_arena.specs.declared.entry.Entry.{Entry}

-- what the first pass has done when it has come to `at`
pub record Rises (s : Linking) (old now : Marking) (key : ℕ) (at : Option ℕ) : Type 0 where
  pub live : (p : ℕ) → at ≡ Some p → IsSome (s p)
  pub above : (p : ℕ) → at ≡ Some p → Reaches s p key
  pub seen : (k : ℕ) → is_seen (now k) ≡ true → (is_marked (now k) ≡ true) × Reaches s k key
  pub unseen : (k : ℕ) → is_seen (now k) ≡ false → is_marked (now k) ≡ is_marked (old k)
  pub begun : (is_seen (now key) ≡ true) ⊎ (at ≡ Some key)
  pub closed : (k p : ℕ) → is_seen (now k) ≡ true → parent_of (s k) ≡ Some p → (is_seen (now p) ≡ true) ⊎ (at ≡ Some p)

-- what it has done in the end: the box and all above it are seen and marked, and no other
pub record Risen (s : Linking) (old now : Marking) (key : ℕ) : Type 0 where
  pub above : (k : ℕ) → Reaches s k key → (is_seen (now k) ≡ true) × (is_marked (now k) ≡ true)
  pub seen : (k : ℕ) → is_seen (now k) ≡ true → Reaches s k key
  pub others : (k : ℕ) → is_seen (now k) ≡ false → is_marked (now k) ≡ is_marked (old k)

-- what the second pass has done when it has come to `at`: what it has still to forget stands there or above
pub record Clears (s : Linking) (old now : Marking) (key : ℕ) (at : Option ℕ) : Type 0 where
  pub live : (p : ℕ) → at ≡ Some p → IsSome (s p)
  pub above : (p : ℕ) → at ≡ Some p → Reaches s p key
  pub marked : (k : ℕ) → is_marked (now k) ≡ is_marked (old k)
  pub left : (k : ℕ) → is_seen (now k) ≡ true → (p : ℕ) × (at ≡ Some p) × Reaches s k p
  pub closed : (k p : ℕ) → Reaches s k key → is_seen (now k) ≡ false → parent_of (s k) ≡ Some p → (is_seen (now p) ≡ false) ⊎ (at ≡ Some p)

module _ {T : Type 0} where
  abbrev pub entry_seen : Option (Entry T) → Bool
  entry_seen None = false
  entry_seen (Some entry) = entry.mark.seen

  abbrev pub entry_unseen : Option (Entry T) → Bool
  entry_unseen None = false
  entry_unseen (Some entry) = not entry.mark.seen

  -- how many boxes are seen, and how many aren't
  abbrev pub seen_count : Slots T → ℕ
  seen_count slots = count_by entry_seen slots

  abbrev pub unseen_count : Slots T → ℕ
  unseen_count slots = count_by entry_unseen slots
