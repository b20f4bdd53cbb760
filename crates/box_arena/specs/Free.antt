-- Steps on the way to an arena without a box and all inside it.
use Rattle.std.specs.Prelude.{◌≡◌, ◌≢◌, ℕ, ◌+◌, ◌<◌, None}
use Rattle.slab.specs.Slab.{Slab, ContainsKey, get, HasRoomFor}
use Rattle.box_arena.specs.declared.entry.Entry.{Entry}
use Rattle.box_arena.specs.At.{IsAbove, IsSound, links_at, parent_at}
use Rattle.box_arena.specs.Arena.{IsSame}
use Rattle.box_arena.specs.Weight.{links_weight, weight}

module _ {T : Type 0} where
  -- a key is free, and all others are as they were
  pub record Removes (old new : Slab (Entry T)) (key : ℕ) : Type 0 where
    pub here : get new key ≡ None
    pub others : (k : ℕ) → k ≢ key → get new k ≡ get old k
    pub room : (n : ℕ) → HasRoomFor old n → HasRoomFor new (n + 1)
    pub weights : (root : ℕ) → weight root new.slots + links_weight root (links_at old.slots key) ≡ weight root old.slots

  -- some boxes inside the root are gone; those that live still stand inside it, and all else is as it was
  pub record Lessens (old new : Slab (Entry T)) (root : ℕ) : Type 0 where
    pub sound : IsSound new.slots
    pub live_root : ContainsKey new root
    pub free_root : parent_at new.slots root ≡ None
    pub live : (k : ℕ) → ContainsKey new k → ContainsKey old k
    pub reach : (k : ℕ) → ContainsKey new k → IsAbove old.slots root k → IsAbove new.slots root k
    pub within : (k : ℕ) → IsAbove new.slots root k → IsAbove old.slots root k
    pub others : (k : ℕ) → (IsAbove old.slots root k → ⊥) → IsSame old.slots new.slots k
    pub room : (n : ℕ) → HasRoomFor old n → HasRoomFor new n

  -- so does a step, which leaves fewer steps to take
  pub record Steps (old new : Slab (Entry T)) (root : ℕ) : Type 0 where
    pub lessens : Lessens old new root
    pub fewer : weight root new.slots < weight root old.slots
