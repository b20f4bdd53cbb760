-- What the calls of an arena do.
use Rattle.std.specs.Prelude.{◌≡◌, ◌≢◌, ℕ, ◌+◌, false, List, Option, Some, None}
use Rattle.slab.specs.Slab.{Slab, get, ContainsKey, HasRoomFor}
use Rattle.fragment_types.specs.declared.constraint.Constraint.{Constraint}
use Rattle.fragment_types.specs.Fragment.{Pieces}
use Rattle.box_arena.specs.declared.entry.Entry.{Entry}
use Rattle.box_arena.specs.At.{Slots, Node, links_at, mark_at, held_at, parent_at, first_at, next_at, node_at, text_at, kept_at, marked_at, IsAbove, HasChildren}
use Rattle.box_arena.specs.Links.{put_before, without}
use Rattle.box_arena.specs.Marks.{MarksUp}

module _ {T : Type 0} where
  -- each box lives on, with its parent, its children and its siblings
  abbrev pub SameLinks : Slots T → Slots T → Type 0
  SameLinks old new = (k : ℕ) → links_at new k ≡ links_at old k

  abbrev pub SameMarks : Slots T → Slots T → Type 0
  SameMarks old new = (k : ℕ) → mark_at new k ≡ mark_at old k

  -- each box is what it was, with the text and the results that were kept
  abbrev pub SameHeld : Slots T → Slots T → Type 0
  SameHeld old new = (k : ℕ) → held_at new k ≡ held_at old k

  -- each is the box that it was
  abbrev pub SameNodes : Slots T → Slots T → Type 0
  SameNodes old new = (k : ℕ) → node_at new k ≡ node_at old k

  -- for each the same text is kept
  abbrev pub SameTexts : Slots T → Slots T → Type 0
  SameTexts old new = (k : ℕ) → text_at new k ≡ text_at old k

  -- the box and all above it are marked, all others are as they were
  abbrev pub IsMarkedUp : Slots T → Slots T → (key : ℕ) → Type 0
  IsMarkedUp old new key = MarksUp (links_at old) (mark_at old) (mark_at new) key

  -- a box that isn't the box under the key or above it keeps its results
  abbrev pub KeepsApart : Slots T → Slots T → (key : ℕ) → Type 0
  KeepsApart old new key = (k : ℕ) → (IsAbove old k key → ⊥) → (c : Constraint) → kept_at new k c ≡ kept_at old k c

  -- what lived lives on
  abbrev pub LiveOn : Slab (Entry T) → Slab (Entry T) → Type 0
  LiveOn old new = (k : ℕ) → ContainsKey old k → ContainsKey new k

  -- as many boxes as before still fit
  abbrev pub SameRoom : Slab (Entry T) → Slab (Entry T) → Type 0
  SameRoom old new = (n : ℕ) → HasRoomFor old n → HasRoomFor new n

  -- a box is new: it has this node, and no parent, no children and no siblings; it isn't marked, and nothing is kept for it
  pub record IsNew (slots : Slots T) (key : ℕ) (put : Node) : Type 0 where
    pub node : node_at slots key ≡ Some put
    pub parent : parent_at slots key ≡ None
    pub first : first_at slots key ≡ None
    pub next : next_at slots key ≡ None
    pub marked : marked_at slots key ≡ false
    pub text : text_at slots key ≡ None
    pub kept : (c : Constraint) → kept_at slots key c ≡ None

  -- a box is put under a key that was free, and takes one place of the room
  pub record Inserts (old new : Slab (Entry T)) (key : ℕ) (node : Node) : Type 0 where
    pub free : get old key ≡ None
    pub alive : ContainsKey new key
    pub live : LiveOn old new
    pub here : IsNew new.slots key node
    pub others : (k : ℕ) → k ≢ key → get new k ≡ get old k
    pub room : (n : ℕ) → HasRoomFor old (n + 1) → HasRoomFor new n

  -- a result is kept, beside those that were kept for other constraints, and the box is marked no more
  pub record Keeps (old new : Slab (Entry T)) (key : ℕ) (c : Constraint) (result : Pieces) : Type 0 where
    pub here : kept_at new.slots key c ≡ Some result
    pub beside : (other : Constraint) → other ≢ c → kept_at new.slots key other ≡ kept_at old.slots key other
    pub elsewhere : (k : ℕ) → k ≢ key → (other : Constraint) → kept_at new.slots k other ≡ kept_at old.slots k other
    pub fresh : marked_at new.slots key ≡ false
    pub marks : (k : ℕ) → k ≢ key → marked_at new.slots k ≡ marked_at old.slots k
    pub nodes : SameNodes old.slots new.slots
    pub texts : SameTexts old.slots new.slots
    pub links : SameLinks old.slots new.slots
    pub live : LiveOn old new
    pub room : SameRoom old new

  -- a box and all above it are marked
  pub record Marks (old new : Slab (Entry T)) (key : ℕ) : Type 0 where
    pub marked : IsMarkedUp old.slots new.slots key
    pub kept : KeepsApart old.slots new.slots key
    pub nodes : SameNodes old.slots new.slots
    pub texts : SameTexts old.slots new.slots
    pub links : SameLinks old.slots new.slots
    pub live : LiveOn old new
    pub room : SameRoom old new

  -- a text is kept for a box, or none
  pub record PutsText (old new : Slab (Entry T)) (key : ℕ) (text : Option T) : Type 0 where
    pub here : text_at new.slots key ≡ text
    pub elsewhere : (k : ℕ) → k ≢ key → text_at new.slots k ≡ text_at old.slots k
    pub nodes : SameNodes old.slots new.slots
    pub links : SameLinks old.slots new.slots
    pub live : LiveOn old new
    pub room : SameRoom old new

  -- a text is kept for a box, and all else stays
  pub record KeepsText (old new : Slab (Entry T)) (key : ℕ) (text : T) : Type 0 where
    pub put : PutsText old new key (Some text)
    pub marks : (k : ℕ) → marked_at new.slots k ≡ marked_at old.slots k
    pub kept : (k : ℕ) (c : Constraint) → kept_at new.slots k c ≡ kept_at old.slots k c

  -- a box's text is taken, and all else stays
  pub record LosesText (old new : Slab (Entry T)) (key : ℕ) : Type 0 where
    pub put : PutsText old new key None
    pub marks : (k : ℕ) → marked_at new.slots k ≡ marked_at old.slots k
    pub kept : (k : ℕ) (c : Constraint) → kept_at new.slots k c ≡ kept_at old.slots k c

  -- for a box these results are kept, by the constraint, and no others, and all else stays
  pub record PutsResults (old new : Slab (Entry T)) (key : ℕ) (results : Constraint → Option Pieces) : Type 0 where
    pub here : (c : Constraint) → kept_at new.slots key c ≡ results c
    pub elsewhere : (k : ℕ) → k ≢ key → (c : Constraint) → kept_at new.slots k c ≡ kept_at old.slots k c
    pub nodes : SameNodes old.slots new.slots
    pub texts : SameTexts old.slots new.slots
    pub links : SameLinks old.slots new.slots
    pub live : LiveOn old new
    pub room : SameRoom old new

  -- a box's text is dropped, and the box and all above it are marked
  pub record DropsText (old new : Slab (Entry T)) (key : ℕ) : Type 0 where
    pub put : PutsText old new key None
    pub marked : IsMarkedUp old.slots new.slots key
    pub kept : KeepsApart old.slots new.slots key

  -- all results and texts are dropped
  pub record Forgets (old new : Slab (Entry T)) : Type 0 where
    pub kept : (k : ℕ) (c : Constraint) → kept_at new.slots k c ≡ None
    pub texts : (k : ℕ) → text_at new.slots k ≡ None
    pub marks : (k : ℕ) → marked_at new.slots k ≡ marked_at old.slots k
    pub nodes : SameNodes old.slots new.slots
    pub links : SameLinks old.slots new.slots
    pub live : LiveOn old new
    pub room : SameRoom old new

  -- a box is put anew, with the children that it has; its text is dropped, and it and all above it are marked
  pub record Restyles (old new : Slab (Entry T)) (key : ℕ) (node : Node) : Type 0 where
    pub here : node_at new.slots key ≡ Some node
    pub elsewhere : (k : ℕ) → k ≢ key → node_at new.slots k ≡ node_at old.slots k
    pub text : text_at new.slots key ≡ None
    pub texts : (k : ℕ) → k ≢ key → text_at new.slots k ≡ text_at old.slots k
    pub marked : IsMarkedUp old.slots new.slots key
    pub kept : KeepsApart old.slots new.slots key
    pub links : SameLinks old.slots new.slots
    pub live : LiveOn old new
    pub room : SameRoom old new

  -- a box stands among the children of another, before that one or last; the parent and all above it are marked
  pub record Attaches (old new : Slab (Entry T)) (parent : ℕ) (before : Option ℕ) (child : ℕ) : Type 0 where
    pub inside : parent_at new.slots child ≡ Some parent
    pub parents : (k : ℕ) → k ≢ child → parent_at new.slots k ≡ parent_at old.slots k
    pub children : (ks : List ℕ) → HasChildren old.slots parent ks → HasChildren new.slots parent (put_before before child ks)
    pub others : (k : ℕ) → k ≢ parent → (ks : List ℕ) → HasChildren old.slots k ks → HasChildren new.slots k ks
    pub firsts : (k : ℕ) → k ≢ parent → first_at new.slots k ≡ first_at old.slots k
    pub nexts : (c k : ℕ) → parent_at old.slots c ≡ Some k → k ≢ parent → next_at new.slots c ≡ next_at old.slots c
    pub marked : IsMarkedUp old.slots new.slots parent
    pub kept : KeepsApart old.slots new.slots parent
    pub nodes : SameNodes old.slots new.slots
    pub texts : SameTexts old.slots new.slots
    pub live : LiveOn old new
    pub room : SameRoom old new

  -- a box is no child of its parent any more; the parent and all above it are marked, the box and all inside it keep their
  -- results
  pub record Detaches (old new : Slab (Entry T)) (parent key : ℕ) : Type 0 where
    pub free : parent_at new.slots key ≡ None
    pub parents : (k : ℕ) → k ≢ key → parent_at new.slots k ≡ parent_at old.slots k
    pub children : (ks : List ℕ) → HasChildren old.slots parent ks → HasChildren new.slots parent (without key ks)
    pub others : (k : ℕ) → k ≢ parent → (ks : List ℕ) → HasChildren old.slots k ks → HasChildren new.slots k ks
    pub firsts : (k : ℕ) → k ≢ parent → first_at new.slots k ≡ first_at old.slots k
    pub nexts : (c k : ℕ) → parent_at old.slots c ≡ Some k → k ≢ parent → next_at new.slots c ≡ next_at old.slots c
    pub marked : IsMarkedUp old.slots new.slots parent
    pub kept : KeepsApart old.slots new.slots parent
    pub inside : (k : ℕ) → IsAbove old.slots key k → (c : Constraint) → kept_at new.slots k c ≡ kept_at old.slots k c
    pub nodes : SameNodes old.slots new.slots
    pub texts : SameTexts old.slots new.slots
    pub live : LiveOn old new
    pub room : SameRoom old new

  -- under this key is what was: the links, the mark, the box and what is kept for it
  pub record IsSame (old new : Slots T) (k : ℕ) : Type 0 where
    pub links : links_at new k ≡ links_at old k
    pub mark : mark_at new k ≡ mark_at old k
    pub held : held_at new k ≡ held_at old k

  -- the keys of a box and of all inside it are free, and under all others is what was
  pub record Releases (old new : Slab (Entry T)) (key : ℕ) : Type 0 where
    pub freed : (k : ℕ) → IsAbove old.slots key k → get new k ≡ None
    pub others : (k : ℕ) → (IsAbove old.slots key k → ⊥) → IsSame old.slots new.slots k
    pub live : (k : ℕ) → (IsAbove old.slots key k → ⊥) → ContainsKey old k → ContainsKey new k
    pub room : (n : ℕ) → HasRoomFor old n → HasRoomFor new (n + 1)
