-- A whole tree of boxes that is put into an arena.
use Rattle.std.specs.Prelude.{◌≡◌, ℕ, ◌+◌, None}
use Rattle.slab.specs.Slab.{Slab, get, ContainsKey, HasRoomFor}
use Rattle.fragment_types.specs.declared.constraint.Constraint.{Constraint}
use Rattle.box_gen.specs.Tree.{Boxes, count}
use Rattle.box_arena.specs.declared.entry.Entry.{Entry}
use Rattle.box_arena.specs.At.{Slots, IsAbove, first_at, kept_at, next_at, node_at, parent_at, text_at}
use Rattle.box_arena.specs.Arena.{LiveOn}
use Rattle.box_arena.specs.Boxes.{Stands}

module _ {T : Type 0} where
  -- nothing is kept for a box
  pub record IsBare (slots : Slots T) (key : ℕ) : Type 0 where
    pub kept : (c : Constraint) → kept_at slots key c ≡ None
    pub text : text_at slots key ≡ None

  -- a box is what it was, where it was, and so is what is kept for it
  pub record IsLeft (old new : Slots T) (key : ℕ) : Type 0 where
    pub parent : parent_at new key ≡ parent_at old key
    pub first : first_at new key ≡ first_at old key
    pub next : next_at new key ≡ next_at old key
    pub node : node_at new key ≡ node_at old key
    pub text : text_at new key ≡ text_at old key
    pub kept : (c : Constraint) → kept_at new key c ≡ kept_at old key c

  -- all boxes that were there are
  abbrev pub AreLeft : (old new : Slab (Entry T)) → Type 0
  AreLeft old new = (k : ℕ) → ContainsKey old k → IsLeft old.slots new.slots k

  -- nothing is kept for those that weren't
  abbrev pub AreBare : (old new : Slab (Entry T)) → Type 0
  AreBare old new = (k : ℕ) → get old k ≡ None → IsBare new.slots k

  -- those that weren't stand under a key
  abbrev pub AreUnder : (old new : Slab (Entry T)) → (key : ℕ) → Type 0
  AreUnder old new key = (k : ℕ) → get old k ≡ None → ContainsKey new k → IsAbove new.slots key k

  -- A tree stands under a key that was free. It isn't attached, nothing is kept for it, all other boxes are as they were, and no box is new but
  -- those of the tree.
  pub record Plants (old new : Slab (Entry T)) (key : ℕ) (tree : Boxes) : Type 0 where
    pub free : get old key ≡ None
    pub alive : ContainsKey new key
    pub apart : parent_at new.slots key ≡ None
    pub stands : Stands new.slots key tree
    pub bare : AreBare old new
    pub left : AreLeft old new
    pub only : AreUnder old new key
    pub live : LiveOn old new
    pub room : (n : ℕ) → HasRoomFor old (count tree + n) → HasRoomFor new n
