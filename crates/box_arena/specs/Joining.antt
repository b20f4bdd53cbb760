-- Links that are written where a box is put among others, or taken from among them.
use Rattle.std.specs.Prelude.{◌≡◌, ◌≢◌, ℕ, Option, Some, None, IsSome}
use Rattle.box_arena.specs.Links.{Linking, IsIn, behind, ahead, parent_of, first_of, last_of, previous_of, next_of}

-- what stands behind a place of a ring is put anew
pub record PutsBehind (s t : Linking) (p : ℕ) (at put : Option ℕ) : Type 0 where
  pub here : behind t p at ≡ put
  pub untouched : (k : ℕ) → at ≢ Some k → (at ≡ None → k ≡ p → ⊥) → t k ≡ s k
  pub firsts : (k : ℕ) → (at ≡ None → k ≡ p → ⊥) → first_of (t k) ≡ first_of (s k)
  pub nexts : (k : ℕ) → at ≢ Some k → next_of (t k) ≡ next_of (s k)
  pub parents : (k : ℕ) → parent_of (t k) ≡ parent_of (s k)
  pub lasts : (k : ℕ) → last_of (t k) ≡ last_of (s k)
  pub previous : (k : ℕ) → previous_of (t k) ≡ previous_of (s k)
  pub live : (k : ℕ) → IsSome (s k) → IsSome (t k)

-- what stands ahead of a place of a ring is put anew
pub record PutsAhead (s t : Linking) (p : ℕ) (at put : Option ℕ) : Type 0 where
  pub here : ahead t p at ≡ put
  pub untouched : (k : ℕ) → at ≢ Some k → (at ≡ None → k ≡ p → ⊥) → t k ≡ s k
  pub lasts : (k : ℕ) → (at ≡ None → k ≡ p → ⊥) → last_of (t k) ≡ last_of (s k)
  pub previous : (k : ℕ) → at ≢ Some k → previous_of (t k) ≡ previous_of (s k)
  pub parents : (k : ℕ) → parent_of (t k) ≡ parent_of (s k)
  pub firsts : (k : ℕ) → first_of (t k) ≡ first_of (s k)
  pub nexts : (k : ℕ) → next_of (t k) ≡ next_of (s k)
  pub live : (k : ℕ) → IsSome (s k) → IsSome (t k)

-- a box that isn't attached is put among the children of `p`, ahead of that place
pub record Joins (s t : Linking) (p : ℕ) (before : Option ℕ) (c : ℕ) : Type 0 where
  pub joined : parent_of (t c) ≡ Some p
  pub parents : (k : ℕ) → k ≢ c → parent_of (t k) ≡ parent_of (s k)
  pub next : next_of (t c) ≡ before
  pub previous : previous_of (t c) ≡ ahead s p before
  pub behind_it : behind t p (ahead s p before) ≡ Some c
  pub ahead_of_it : ahead t p before ≡ Some c
  pub same_behind : (r : ℕ) (o : Option ℕ) → IsIn s r o → (r ≡ p → o ≡ ahead s p before → ⊥) → behind t r o ≡ behind s r o
  pub same_ahead : (r : ℕ) (o : Option ℕ) → IsIn s r o → (r ≡ p → o ≡ before → ⊥) → ahead t r o ≡ ahead s r o
  pub strays : (k : ℕ) → k ≢ c → parent_of (s k) ≡ None → (next_of (t k) ≡ next_of (s k)) × (previous_of (t k) ≡ previous_of (s k))
  pub untouched : (k : ℕ) → k ≢ c → k ≢ p → parent_of (s k) ≢ Some p → t k ≡ s k
  pub live : (k : ℕ) → IsSome (s k) → IsSome (t k)

-- a child of `p` is taken from among the others
pub record Parts (s t : Linking) (p c : ℕ) : Type 0 where
  pub parted : parent_of (t c) ≡ None
  pub parents : (k : ℕ) → k ≢ c → parent_of (t k) ≡ parent_of (s k)
  pub next : next_of (t c) ≡ None
  pub previous : previous_of (t c) ≡ None
  pub behind_it : behind t p (previous_of (s c)) ≡ next_of (s c)
  pub ahead_of_it : ahead t p (next_of (s c)) ≡ previous_of (s c)
  pub same_behind : (r : ℕ) (o : Option ℕ) → IsIn t r o → (r ≡ p → o ≡ previous_of (s c) → ⊥) → behind t r o ≡ behind s r o
  pub same_ahead : (r : ℕ) (o : Option ℕ) → IsIn t r o → (r ≡ p → o ≡ next_of (s c) → ⊥) → ahead t r o ≡ ahead s r o
  pub strays : (k : ℕ) → k ≢ c → parent_of (s k) ≡ None → (next_of (t k) ≡ next_of (s k)) × (previous_of (t k) ≡ previous_of (s k))
  pub untouched : (k : ℕ) → k ≢ c → k ≢ p → parent_of (s k) ≢ Some p → t k ≡ s k
  pub live : (k : ℕ) → IsSome (s k) → IsSome (t k)
