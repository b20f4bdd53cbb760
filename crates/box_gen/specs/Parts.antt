-- What stands in a block container, as one list. CSS 2, 9.2.1.1 and 9.2.2.
use Rattle.std.specs.Prelude.{ℕ, Bool, true, false, List, [], ◌∷◌, ◌++◌}
use Rattle.std.specs.List.{list_any}
use Rattle.style_types.specs.declared.style.Style.{Style}
use Rattle.box_gen.specs.Tree.{Boxes}

-- an inline box is where it starts and where it stops, with what is inside it between the two; an atom and a block-level box stand there
-- with the box that each has of its own
pub data Part : Type 0 where
  words : (number : ℕ) (letters : List ℕ) (style : Style) → Part
  line_break : (number : ℕ) → Part
  atom : (number : ℕ) (own : Boxes) → Part
  block_level : (own : Boxes) → Part
  starts : (number : ℕ) (style : Style) → Part
  stops : (number : ℕ) (is_cut : Bool) → Part

abbrev pub is_block : Part → Bool
is_block (words number letters style) = false
is_block (line_break number) = false
is_block (atom number own) = false
is_block (block_level own) = true
is_block (starts number style) = false
is_block (stops number is_cut) = false

abbrev pub has_block : List Part → Bool
has_block = list_any is_block

-- an inline box round its content; a block-level box in it cuts it
abbrev pub around : (number : ℕ) → Style → (inner : List Part) → List Part
around number style inner = starts number style ∷ (inner ++ (stops number (has_block inner) ∷ []))
