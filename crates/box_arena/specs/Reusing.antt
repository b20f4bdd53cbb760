-- What is kept of boxes, handed from an arena to another one in which they stand as they did.
use Rattle.std.specs.Prelude.{◌≡◌, ℕ, ◌<◌, ◌≤◌, ◌^◌, Option, Some, None, option_and_then, nat_eq, if◌then◌else◌, ◌⊎◌, ⊤}
use Rattle.std.specs.BTreeMap.{BTreeMap, get}
use Rattle.std.specs.Ordering.{nat_cmp, ordering_then}
use Rattle.std.specs.declared.cmp.Ordering.{Ordering}
use Rattle.slab.specs.Slab.{Slab}
use Rattle.fragment_types.specs.declared.constraint.Constraint.{Constraint}
use Rattle.fragment_types.specs.Fragment.{Pieces}
use Rattle.fragment_types.specs.declared.item.BoxName.{BoxName}
use Rattle.box_gen.specs.Places.{RunAlike}
use Rattle.box_gen.specs.Tree.{Boxes, count, height}
use Rattle.box_arena.specs.declared.entry.Entry.{Entry}
use Rattle.box_arena.specs.declared.reusing.Stood.{Stood}
use Rattle.box_arena.specs.declared.reusing.Stood.TheVariants.{At, Elsewhere}
use Rattle.box_arena.specs.Arena.{LiveOn, SameLinks, SameNodes, SameRoom}
use Rattle.box_arena.specs.At.{IsAbove, Node, Slots, first_at, kept_at, next_at, node_at, parent_at, text_at}
use Rattle.box_arena.specs.Boxes.{StandFrom, Stands}

-- both are in no box, or in boxes whose lines run alike
abbrev pub AreAround : (one other : Option Node) → Type 0
AreAround None None = ⊤
AreAround None (Some other) = ⊥
AreAround (Some one) None = ⊥
AreAround (Some one) (Some other) = RunAlike one.style other.style

-- the order of two names, by their numbers
abbrev pub names_cmp : ℕ × ℕ → ℕ × ℕ → Ordering
names_cmp one other = ordering_then (nat_cmp one.0 other.0) (nat_cmp one.1 other.1)

-- the key that is found under a name
abbrev pub key_named : BTreeMap (ℕ × ℕ) ℕ → BoxName → Option ℕ
key_named keys name = get names_cmp keys (name.node, name.ordinal)

-- What is found by one list of questions stays where it is, or goes over whole, if there is any.
abbrev pub Goes : {I X : Type 0} → (giver given old new : I → Option X) → Type 0
Goes {I} giver given old new = (((i : I) → given i ≡ giver i) × ((i : I) → new i ≡ old i))
    ⊎ ((((i : I) → giver i ≡ None) → ⊥) × ((i : I) → given i ≡ None) × ((i : I) → new i ≡ giver i))

module _ {T : Type 0} where
  -- the box that a box stands in
  abbrev pub around_at : Slots T → (key : ℕ) → Option Node
  around_at slots key = option_and_then (node_at slots) (parent_at slots key)

  -- a box stands under a key, with those inside it
  pub record IsTree (slots : Slots T) (key : ℕ) : Type 0 where
    pub node : Node
    pub inner : Boxes
    pub is : node_at slots key ≡ Some node
    pub inside : StandFrom slots (first_at slots key) inner

  -- the boxes that stand from there on in the new arena stand from there on in the old one
  abbrev pub StoodFrom : (old new : Slots T) → (from at : Option ℕ) → Type 0
  StoodFrom old new from at = (boxes : Boxes) → StandFrom new at boxes → StandFrom old from boxes

  -- the tree that stands under a key of the new arena stands under that one of the old
  abbrev pub StoodUnder : (old new : Slots T) → (from key : ℕ) → Type 0
  StoodUnder old new from key = (tree : Boxes) → Stands new key tree → Stands old from tree

  -- a result was kept for that constraint where the same tree stood, in a box whose lines run alike
  pub record IsResultFrom (old new : Slots T) (key : ℕ) (c : Constraint) (result : Pieces) : Type 0 where
    pub from : ℕ
    pub was : kept_at old from c ≡ Some result
    pub tree : StoodUnder old new from key
    pub around : AreAround (around_at old from) (around_at new key)

  -- a text was kept for the same box
  pub record IsTextFrom (old new : Slots T) (key : ℕ) (text : T) : Type 0 where
    pub from : ℕ
    pub was : text_at old from ≡ Some text
    pub node : node_at old from ≡ node_at new key

  -- the same boxes stand, and nothing is kept that wasn't
  pub record Gives (old new : Slab (Entry T)) : Type 0 where
    pub results : (k : ℕ) (c : Constraint) (result : Pieces) → kept_at new.slots k c ≡ Some result → kept_at old.slots k c ≡ Some result
    pub texts : (k : ℕ) (text : T) → text_at new.slots k ≡ Some text → text_at old.slots k ≡ Some text
    pub nodes : SameNodes old.slots new.slots
    pub links : SameLinks old.slots new.slots
    pub live : LiveOn old new

  -- the same boxes stand in both arenas, and what is kept in the second was kept there, or in the first where the same stood
  pub record Reuses (giver given old new : Slab (Entry T)) : Type 0 where
    pub gives : Gives giver given
    pub results : (k : ℕ) (c : Constraint) (result : Pieces) → kept_at new.slots k c ≡ Some result → (kept_at old.slots k c ≡ Some result) ⊎ IsResultFrom giver.slots old.slots k c result
    pub texts : (k : ℕ) (text : T) → text_at new.slots k ≡ Some text → (text_at old.slots k ≡ Some text) ⊎ IsTextFrom giver.slots old.slots k text
    pub nodes : SameNodes old.slots new.slots
    pub links : SameLinks old.slots new.slots
    pub live : LiveOn old new
    pub room : SameRoom old new

  -- no two boxes of an arena have one name
  abbrev pub AreNamedOnce : Slots T → Type 0
  AreNamedOnce slots = (one other : ℕ) (node same : Node) → node_at slots one ≡ Some node → node_at slots other ≡ Some same → node.name ≡ same.name → one ≡ other

  -- Nothing is lost of what was kept for boxes that stand under a root as they did: neither the text of a box that is what it was, nor a
  -- result where the same tree stands in a box whose lines run alike.
  pub record LosesNothing (giver old new : Slots T) (root : ℕ) : Type 0 where
    pub texts : (key from : ℕ) (node : Node) (text : T) → IsAbove old root key → node_at old key ≡ Some node → node_at giver from ≡ Some node
        → text_at giver from ≡ Some text → text_at new key ≡ Some text
    pub results : (key from : ℕ) (tree : Boxes) (c : Constraint) (result : Pieces) → IsAbove old root key → Stands old key tree → Stands giver from tree
        → AreAround (around_at giver from) (around_at old key) → kept_at giver from c ≡ Some result → kept_at new key c ≡ Some result
    pub elsewhere : (key : ℕ) (c : Constraint) (result : Pieces) → kept_at new key c ≡ Some result → (kept_at old key c ≡ Some result) ⊎ IsAbove old root key

  -- so it is where each box is told by its name, and no tree is too great
  abbrev pub ReusesAll : (giver old new : Slots T) (root : ℕ) → Type 0
  ReusesAll giver old new root = AreNamedOnce giver → AreNamedOnce old → (tree : Boxes) → Stands old root tree → height tree ≤ 130 → count tree ≤ 2 ^ 18
      → LosesNothing giver old new root

  -- the boxes from there on tell whether those of a whole row stood in a row
  abbrev pub TellsRow : (old new : Slots T) → (from first : Option ℕ) → (stood : Stood) → (next : Option ℕ) → Type 0
  TellsRow old new from first (At here) next = StoodFrom old new here next → StoodFrom old new from first
  TellsRow old new from first Elsewhere next = ⊤

  -- so do they of the boxes inside one, where it stood somewhere
  abbrev pub TellsInside : (old new : Slots T) → (from : Option ℕ) (key : ℕ) → (stood : Stood) → (next : Option ℕ) → Type 0
  TellsInside old new None key stood next = ⊤
  TellsInside old new (Some from) key stood next = TellsRow old new (first_at old from) (first_at new key) stood next

  -- where the box behind one stood, which was found under that key
  abbrev pub stood_behind : Slots T → (stood : Stood) → (found : Option ℕ) → Stood
  stood_behind old (At (Some expected)) (Some found) = if nat_eq expected found then At (next_at old found) else Elsewhere
  stood_behind old (At (Some expected)) None = Elsewhere
  stood_behind old (At None) found = Elsewhere
  stood_behind old Elsewhere found = Elsewhere

  -- the boxes inside one stood inside the other
  abbrev pub StoodInside : (old new : Slots T) → (from key : ℕ) → Type 0
  StoodInside old new from key = StoodFrom old new (first_at old from) (first_at new key)

  -- ---- what a handover does, box by box

  -- each box with a key below this one is found under its name
  abbrev pub FindsBelow : BTreeMap (ℕ × ℕ) ℕ → Slots T → (end_ : ℕ) → Type 0
  FindsBelow keys slots end_ = AreNamedOnce slots → (k : ℕ) (node : Node) → k < end_ → node_at slots k ≡ Some node → key_named keys node.name ≡ Some k

  -- each box is found under its name, which no other one has
  pub record FindsEach (keys : BTreeMap (ℕ × ℕ) ℕ) (slots : Slots T) : Type 0 where
    pub named : AreNamedOnce slots
    pub found : (k : ℕ) (node : Node) → node_at slots k ≡ Some node → key_named keys node.name ≡ Some k

  -- what is kept for a box of one arena, and for one of the other that is what it was, stays or goes over whole
  pub record GoesOver (giver given old new : Slots T) (from key : ℕ) : Type 0 where
    pub text : Goes (λ (one : ⊤). text_at giver from) (λ one. text_at given from) (λ one. text_at old key) (λ one. text_at new key)
    pub results : Goes (kept_at giver from) (kept_at given from) (kept_at old key) (kept_at new key)

  -- so it is for all boxes, and nothing comes to one that isn't inside that one
  pub record HandsUnder (giver given old new : Slots T) (root : ℕ) : Type 0 where
    pub over : AreNamedOnce giver → AreNamedOnce old → (key from : ℕ) (node : Node) → node_at old key ≡ Some node → node_at giver from ≡ Some node → GoesOver giver given old new from key
    pub elsewhere : (key : ℕ) (c : Constraint) (result : Pieces) → kept_at new key c ≡ Some result → (kept_at old key c ≡ Some result) ⊎ IsAbove old root key

  -- nothing is kept any more that could go to a box
  pub record LeavesNothing (giver taker : Slots T) (key : ℕ) : Type 0 where
    pub texts : (from : ℕ) (node : Node) → node_at taker key ≡ Some node → node_at giver from ≡ Some node → text_at giver from ≡ None
    pub results : (from : ℕ) (tree : Boxes) (c : Constraint) → Stands taker key tree → Stands giver from tree → AreAround (around_at giver from) (around_at taker key)
        → kept_at giver from c ≡ None

  -- a tree whose boxes are all gone through, as far as that many stand one inside the other
  pub record IsGoneThrough (taker : Slots T) (key depth : ℕ) (tree : Boxes) : Type 0 where
    pub stands : Stands taker key tree
    pub height : height tree ≤ depth
    pub count : count tree ≤ 2 ^ 18
