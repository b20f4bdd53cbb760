-- Which boxes hold a text of a node, box after box.
use Rattle.std.specs.Prelude.{◌≡◌, ◌≢◌, ℕ, false, List, Some, ⊤}
use Rattle.slab.specs.Slab.{Slab}
use Rattle.box_arena.specs.declared.entry.Entry.{Entry}
use Rattle.box_arena.specs.Arena.{Restyles}
use Rattle.box_arena.specs.At.{IsAbove, Node, Slots, node_at}
use Rattle.text_boxes.specs.Boxes.{content_with, has_text, node_with}
use Rattle.text_boxes.specs.declared.finding.Found.{Found}
use Rattle.text_boxes.specs.declared.finding.Found.TheVariants.{In, Nowhere, Unsure}

-- what is found of some boxes and others, by what is found of each
abbrev pub found_in_both : (some others : Found) → Found
found_in_both Nowhere others = others
found_in_both (In key) Nowhere = In key
found_in_both (In key) (In other) = Unsure
found_in_both (In key) Unsure = Unsure
found_in_both Unsure others = Unsure

module _ {T : Type 0} where
  -- a box stands under the root, and of these boxes no other one holds a text of this node; whether this one does isn't said
  pub record IsFoundIn (slots : Slots T) (root : ℕ) (Among : (k : ℕ) → Type 0) (number key : ℕ) : Type 0 where
    pub inside : IsAbove slots root key
    pub node : Node
    pub is : node_at slots key ≡ Some node
    pub others : (k : ℕ) (node : Node) → Among k → k ≢ key → node_at slots k ≡ Some node → has_text number node.content ≡ false

  -- which of these boxes, which stand under the root, hold a text of this node
  abbrev pub IsFound : (slots : Slots T) (root : ℕ) (Among : (k : ℕ) → Type 0) (number : ℕ) → Found → Type 0
  IsFound slots root Among number Nowhere = (k : ℕ) (node : Node) → Among k → node_at slots k ≡ Some node → has_text number node.content ≡ false
  IsFound slots root Among number (In key) = IsFoundIn slots root Among number key
  IsFound slots root Among number Unsure = ⊤

  -- the text is set in that box, where it had other letters; nothing is kept any more of it and those above it
  pub record SetsTextAt (old new : Slab (Entry T)) (key number : ℕ) (letters : List ℕ) : Type 0 where
    pub node : Node
    pub was : node_at old.slots key ≡ Some node
    pub differs : content_with number letters node.content ≢ node.content
    pub restyles : Restyles old new key (node_with number letters node)
