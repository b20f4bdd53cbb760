-- What is kept in an arena of boxes, compared with flow layout: results are what boxes come to, texts are those of paragraphs.
use Rattle.std.specs.Prelude.{◌≡◌, ℕ, ◌≤◌, Option, Some, None, option_and_then, pos}
use Rattle.fragment_types.specs.declared.constraint.Constraint.{Constraint}
use Rattle.fragment_types.specs.declared.item.BoxName.{BoxName}
use Rattle.style_types.specs.declared.style.Style.{Style}
use Rattle.fragment_types.specs.Fragment.{Pieces, none, piece}
use Rattle.box_gen.specs.Tree.{Boxes, Content, box, none as no_boxes}
use Rattle.box_arena.specs.At.{Node, Slots, kept_at, node_at, parent_at, text_at}
use Rattle.box_arena.specs.Boxes.{Stands}
use Rattle.line_place.specs.Spread.{spread}
use Rattle.para_prepare.specs.Preparation.{Preparation}
use Rattle.relayout.specs.declared.sizes.Containing.{Containing}
use Rattle.relayout.specs.Fit.{reach_of}
use Rattle.relayout.specs.Flow.{flow_step, members}
use Rattle.relayout.specs.Flowed.{at}
use Rattle.relayout.specs.Inline.{Outside}
use Rattle.relayout.specs.Intrinsic.{IsTextOf}
use Rattle.relayout.specs.Paragraph.{IsReadyFor}
use Rattle.relayout.specs.Sizes.{containing_of}

-- a box in its parent; one that isn't attached stands in a view of its own mode and direction
abbrev pub containing_by : (parent : Option Node) → Style → Containing
containing_by None style = containing_of style
containing_by (Some parent) style = containing_of parent.style

-- what the containing block of the box under a key, which has this style, is to it
abbrev pub containing_at : Slots Preparation → (key : ℕ) → Style → Containing
containing_at slots key style = containing_by (option_and_then (node_at slots) (parent_at slots key)) style

-- the fragment that a box comes to, with its border box at 0
unfoldable pub result_of : Outside → Containing → BoxName → Style → Content → (inner : Boxes) → Constraint → Pieces
result_of outside containing name style content inner c =
    let node : Node = record { name = name; style = style; content = content } in
    at (pos 0) (pos 0) (flow_step outside containing node (members outside (containing_of style) inner) c).part none

-- the fragments inside one
abbrev pub inside : Pieces → Pieces
inside none = none
inside (piece name rect kind inner next) = inner

-- that fragment, with nothing in it further out than the box's paragraph and the boxes inside it can bring it
pub record IsResultOf (outside : Outside) (containing : Containing) (name : BoxName) (style : Style) (content : Content) (inner : Boxes) (c : Constraint) (result : Pieces) : Type 0 where
  pub value : result ≡ result_of outside containing name style content inner c
  pub reach : spread (inside result) ≤ reach_of content inner

-- it is what the box under a key comes to under a constraint, whatever tree stands there
abbrev pub IsResultAt : Outside → Slots Preparation → (key : ℕ) → Constraint → Pieces → Type 0
IsResultAt outside slots key c result = (name : BoxName) (style : Style) (content : Content) (inner : Boxes) → Stands slots key (box name style content inner no_boxes)
    → IsResultOf outside (containing_at slots key style) name style content inner c result

-- the text of the paragraph that a box holds, with what every such text has
pub record IsTextIn (outside : Outside) (node : Node) (text : Preparation) : Type 0 where
  pub value : IsTextOf outside.faces node.style node.content (Some text)
  pub ready : IsReadyFor node.content text

-- it is the text of the paragraph that the box under a key holds
abbrev pub IsTextAt : Outside → Slots Preparation → (key : ℕ) → Preparation → Type 0
IsTextAt outside slots key text = (node : Node) → node_at slots key ≡ Some node → IsTextIn outside node text

-- each result that is kept for a box is what it comes to
abbrev pub HasRightResults : Outside → Slots Preparation → (key : ℕ) → Type 0
HasRightResults outside slots key = (c : Constraint) (result : Pieces) → kept_at slots key c ≡ Some result → IsResultAt outside slots key c result

-- the text that is kept for a box, if one is, is its own
abbrev pub HasRightText : Outside → Slots Preparation → (key : ℕ) → Type 0
HasRightText outside slots key = (text : Preparation) → text_at slots key ≡ Some text → IsTextAt outside slots key text

-- all that is kept for a box is right
pub record IsRightAt (outside : Outside) (slots : Slots Preparation) (key : ℕ) : Type 0 where
  pub results : HasRightResults outside slots key
  pub text : HasRightText outside slots key

-- all that is kept is right
abbrev pub AreRight : Outside → Slots Preparation → Type 0
AreRight outside slots = (key : ℕ) → IsRightAt outside slots key

-- the containing block of the box under a key is to it what it was
abbrev pub SameContaining : (old new : Slots Preparation) (key : ℕ) → Type 0
SameContaining old new key = (style : Style) → containing_at new key style ≡ containing_at old key style
