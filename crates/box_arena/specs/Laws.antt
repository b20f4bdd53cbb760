-- What holds of arenas.
use Rattle.std.specs.Prelude.{◌≡◌, ℕ, Option, None}
use Rattle.slab.specs.Slab.{Slab, get}
use Rattle.fragment_types.specs.declared.constraint.Constraint.{Constraint}
use Rattle.box_gen.specs.Places as named
use Rattle.box_gen.specs.Tree.{Boxes}
use Rattle.box_arena.specs.declared.entry.Entry.{Entry}
use Rattle.box_arena.specs.At.{Slots, Node, IsAbove, IsSound, kept_at, links_at}
use Rattle.box_arena.specs.Boxes.{Stands}
use Rattle.box_arena.specs.Arena.{Attaches, Detaches, Restyles}
use Rattle.box_arena.specs.Links.{IsLinked}
use Rattle.box_arena.specs.Planting.{Plants}
use Rattle.box_arena.specs.Reusing.{AreNamedOnce}

-- the same trees stand under a key, and the same is kept for its box: what was right for what stands there still is
pub record Survives {T : Type 0} (old new : Slots T) (k : ℕ) : Type 0 where
  pub back : (tree : Boxes) → Stands new k tree → Stands old k tree
  pub on : (tree : Boxes) → Stands old k tree → Stands new k tree
  pub kept : (c : Constraint) → kept_at new k c ≡ kept_at old k c

-- a box that is put anew changes nothing but at it and above it
abbrev pub SurviveRestyle : (T : Type 0) → Type 0
SurviveRestyle T = (old new : Slab (Entry T)) (key : ℕ) (node : Node) → IsLinked (links_at old.slots) → Restyles old new key node
    → (k : ℕ) → (IsAbove old.slots k key → ⊥) → Survives old.slots new.slots k

-- a box that is put among others changes nothing but at their parent and above
abbrev pub SurviveAttach : (T : Type 0) → Type 0
SurviveAttach T = (old new : Slab (Entry T)) (parent : ℕ) (before : Option ℕ) (child : ℕ) → IsLinked (links_at old.slots) → Attaches old new parent before child
    → (k : ℕ) → (IsAbove old.slots k parent → ⊥) → Survives old.slots new.slots k

-- a box that is taken from among others changes nothing but at their parent and above
abbrev pub SurviveDetach : (T : Type 0) → Type 0
SurviveDetach T = (old new : Slab (Entry T)) (parent key : ℕ) → IsLinked (links_at old.slots) → Detaches old new parent key
    → (k : ℕ) → (IsAbove old.slots k parent → ⊥) → Survives old.slots new.slots k

-- a tree whose boxes are named once is planted where no box was: each box is told by its name
abbrev pub PlantedAreNamedOnce : (T : Type 0) → Type 0
PlantedAreNamedOnce T = (old new : Slab (Entry T)) (key : ℕ) (tree : Boxes) → ((k : ℕ) → get old k ≡ None) → IsSound new.slots → named.AreNamedOnce tree → Plants old new key tree → AreNamedOnce new.slots
