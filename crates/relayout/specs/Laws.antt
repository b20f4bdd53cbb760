-- What is kept in an arena stays right through the arena's calls. What a box comes to depends on its parent's mode and direction too, and no
-- call marks a box where these change around it: the last laws speak of boxes to which their containing block is what it was.
use Rattle.std.specs.Prelude.{◌≡◌, ℕ, Option, None, Some}
use Rattle.slab.specs.Slab.{Slab}
use Rattle.fragment_types.specs.declared.constraint.Constraint.{Constraint}
use Rattle.fragment_types.specs.Fragment.{Pieces}
use Rattle.box_arena.specs.declared.entry.Entry.{Entry}
use Rattle.box_arena.specs.Arena.{Attaches, Detaches, DropsText, Forgets, Keeps, KeepsText, Marks, Restyles}
use Rattle.box_arena.specs.At.{IsAbove, Node, Slots, kept_at, links_at, node_at, text_at}
use Rattle.box_arena.specs.Links.{IsLinked}
use Rattle.box_arena.specs.Reusing.{Reuses}
use Rattle.para_prepare.specs.Preparation.{Preparation}
use Rattle.relayout.specs.Inline.{Outside}
use Rattle.relayout.specs.Kept.{AreRight, HasRightResults, HasRightText, IsResultAt, IsRightAt, IsTextAt, SameContaining}
use Rattle.relayout.specs.Sizes.{containing_of}

abbrev Arena : Type 0
Arena = Slab (Entry Preparation)

-- no result and no text is kept
pub record IsBare (slots : Slots Preparation) : Type 0 where
  pub kept : (key : ℕ) (c : Constraint) → kept_at slots key c ≡ None
  pub texts : (key : ℕ) → text_at slots key ≡ None

abbrev pub BareIsRight : Type 0
BareIsRight = (outside : Outside) (slots : Slots Preparation) → IsBare slots → AreRight outside slots

abbrev pub ForgottenIsRight : Type 0
ForgottenIsRight = (outside : Outside) (old new : Arena) → Forgets old new → AreRight outside new.slots

-- a result that is right is kept
abbrev pub KeptIsRight : Type 0
KeptIsRight = (outside : Outside) (old new : Arena) (key : ℕ) (c : Constraint) (result : Pieces) → AreRight outside old.slots → IsResultAt outside old.slots key c result
    → Keeps old new key c result → AreRight outside new.slots

-- a text that is right is kept
abbrev pub KeptTextIsRight : Type 0
KeptTextIsRight = (outside : Outside) (old new : Arena) (key : ℕ) (text : Preparation) → AreRight outside old.slots → IsTextAt outside old.slots key text
    → KeepsText old new key text → AreRight outside new.slots

-- the results of a box that is marked, and of those above it, needn't have been right
abbrev pub MarkedIsRight : Type 0
MarkedIsRight = (outside : Outside) (old new : Arena) (key : ℕ) → Marks old new key
    → (k : ℕ) → ((IsAbove old.slots k key → ⊥) → HasRightResults outside old.slots k) → HasRightText outside old.slots k → IsRightAt outside new.slots k

-- a text is dropped, with all results of its box and those above it
abbrev pub DroppedIsRight : Type 0
DroppedIsRight = (outside : Outside) (old new : Arena) (key : ℕ) → AreRight outside old.slots → DropsText old new key → AreRight outside new.slots

-- each text that is kept is right, and so are the results of each box to which its containing block is what it was
abbrev pub AreRightWhereSame : Outside → (old new : Slots Preparation) → Type 0
AreRightWhereSame outside old new = (k : ℕ) → HasRightText outside new k × (SameContaining old new k → HasRightResults outside new k)

-- a box is put anew: what is kept for those inside it stays right where it is to them what it was
abbrev pub RestyledIsRight : Type 0
RestyledIsRight = (outside : Outside) (old new : Arena) (key : ℕ) (node : Node) → IsLinked (links_at old.slots) → AreRight outside old.slots → Restyles old new key node
    → AreRightWhereSame outside old.slots new.slots

-- so all is right where its mode and its direction stay
abbrev pub RestyledAlikeIsRight : Type 0
RestyledAlikeIsRight = (outside : Outside) (old new : Arena) (key : ℕ) (was node : Node) → IsLinked (links_at old.slots) → AreRight outside old.slots
    → node_at old.slots key ≡ Some was → containing_of node.style ≡ containing_of was.style → Restyles old new key node → AreRight outside new.slots

-- a box is attached: what is kept for it stays right where its parent is to it what it was to itself
abbrev pub AttachedIsRight : Type 0
AttachedIsRight = (outside : Outside) (old new : Arena) (parent : ℕ) (before : Option ℕ) (child : ℕ) → IsLinked (links_at old.slots) → AreRight outside old.slots
    → Attaches old new parent before child → AreRightWhereSame outside old.slots new.slots

-- a box is detached: what is kept for it stays right where it is to itself what its parent was to it
abbrev pub DetachedIsRight : Type 0
DetachedIsRight = (outside : Outside) (old new : Arena) (parent key : ℕ) → IsLinked (links_at old.slots) → AreRight outside old.slots
    → Detaches old new parent key → AreRightWhereSame outside old.slots new.slots

-- what is kept goes from an arena to another one, for the boxes that stand there as they did
abbrev pub ReusedIsRight : Type 0
ReusedIsRight = (outside : Outside) (giver given old new : Arena) → AreRight outside giver.slots → AreRight outside old.slots → Reuses giver given old new
    → AreRight outside new.slots
