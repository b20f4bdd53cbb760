-- The text of a node, set to other letters in the boxes of an arena.
use Rattle.std.specs.Prelude.{◌≡◌, ◌≢◌, ℕ, false, List, Some}
use Rattle.slab.specs.Slab.{Slab}
use Rattle.box_gen.specs.Tree.{Boxes}
use Rattle.box_arena.specs.declared.entry.Entry.{Entry}
use Rattle.box_arena.specs.Arena.{Restyles}
use Rattle.box_arena.specs.At.{IsAbove, IsSound, Node, Slots, node_at}
use Rattle.para_prepare.specs.Preparation.{Preparation}
use Rattle.relayout.specs.Named.{IsPageUnder}
use Rattle.text_boxes.specs.Boxes.{content_with, has_text, node_with}

module _ {T : Type 0} where
  -- of the boxes under a root no other one holds a text of this node; whether this one does isn't said
  pub record IsOnlyBox (slots : Slots T) (root number key : ℕ) : Type 0 where
    pub inside : IsAbove slots root key
    pub others : (k : ℕ) (node : Node) → IsAbove slots root k → k ≢ key → node_at slots k ≡ Some node → has_text number node.content ≡ false

  -- the text is set in the one box under a root that holds it, where it had other letters; nothing is kept any more of that box and those above it
  pub record SetsText (old new : Slab (Entry T)) (root number : ℕ) (letters : List ℕ) : Type 0 where
    pub key : ℕ
    pub node : Node
    pub was : node_at old.slots key ≡ Some node
    pub only : IsOnlyBox old.slots root number key
    pub differs : content_with number letters node.content ≢ node.content
    pub restyles : Restyles old new key (node_with number letters node)

-- so where a page stands under the root
pub record SetsTextIn (old new : Slab (Entry Preparation)) (root number : ℕ) (letters : List ℕ) (page : Boxes) : Type 0 where
  pub under : IsPageUnder old.slots root page
  pub sound : IsSound new.slots
  pub sets : SetsText old new root number letters
