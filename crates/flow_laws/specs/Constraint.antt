-- What a box comes to hangs on what is above it and beside it by its constraint alone, and by its containing block's mode and used direction.
-- CSS 2, 10.1; CSS Writing Modes 4, 7.
use Rattle.std.specs.Prelude.{◌≡◌, List, Option, Some, None, ℤ}
use Rattle.face_api.specs.Table.{Table}
use Rattle.wm_modes.specs.declared.mode.Direction.{Direction}
use Rattle.wm_modes.specs.declared.mode.WritingMode.{WritingMode}
use Rattle.wm_modes.specs.Mode.{is_horizontal}
use Rattle.fragment_types.specs.declared.constraint.Constraint.{Constraint}
use Rattle.style_types.specs.declared.style.Style.{Style}
use Rattle.fragment_types.specs.Fragment.{Pieces, none, piece}
use Rattle.box_arena.specs.At.{Node}
use Rattle.box_gen.specs.Tree.{Boxes, none as no_boxes, box, blocks, inline}
use Rattle.para_prepare.specs.Parts.{used_direction}
use Rattle.relayout.specs.Flow.{flow_step, layout, members, on_page}
use Rattle.relayout.specs.Flowed.{Flowed, Part}
use Rattle.relayout.specs.Inline.{Outside}
use Rattle.relayout.specs.Sizes.{containing_of}
use Rattle.flow_laws.specs.Placing.{at_zero, given}

-- a way from the first of some boxes, or of their fragments, to one of them, or to one inside one of them
pub data Way : Type 0 where
  here : Way
  behind : Way → Way
  inside : Way → Way

-- a box with all inside it, and what hangs on others: the mode and the used direction of its containing block, and its constraint
pub record Met : Type 0 where
  pub mode : WritingMode
  pub dir : Direction
  pub constraint : Constraint
  pub node : Node
  pub inner : Boxes

-- the box at the end of a way, of boxes in one of this style that gives them this constraint; none where the way ends before, or goes into a
-- paragraph
abbrev pub met_on : Outside → (parent : Style) → Constraint → Boxes → Way → Option Met
met_on outside parent c no_boxes way = None
met_on outside parent c (box name style content inner next) here =
    Some (record { mode = parent.mode; dir = used_direction parent; constraint = c; node = record { name = name; style = style; content = content }; inner = inner })
met_on outside parent c (box name style content inner next) (behind way) = met_on outside parent c next way
met_on outside parent c (box name style blocks inner next) (inside way) =
    met_on outside style
    (given outside parent (record { name = name; style = style; content = blocks }) c (members outside (containing_of style) inner)) inner way
met_on outside parent c (box name style (inline entries) inner next) (inside way) = None

-- the fragment at the end of a way, wherever it stands
abbrev pub fragment_on : Pieces → Way → Option Part
fragment_on none way = None
fragment_on (piece name rect kind inner next) here = Some (at_zero (record { name = name; rect = rect; kind = kind; inner = inner }))
fragment_on (piece name rect kind inner next) (behind way) = fragment_on next way
fragment_on (piece name rect kind inner next) (inside way) = fragment_on inner way

-- what a box comes to: its fragment and its margins that adjoin others, by what was met of it and nothing else
abbrev pub comes_to : Outside → Met → Flowed
comes_to outside met = flow_step outside (record { mode = met.mode; dir = met.dir }) met.node (members outside (containing_of met.node.style) met.inner) met.constraint

-- the faces and the page of a layout
abbrev pub outside_of : (faces : List (Option Table)) → (inline_size block_size : ℤ) → Boxes → Outside
outside_of faces inline_size block_size no_boxes = record { faces = faces; view = record { across = inline_size; down = block_size } }
outside_of faces inline_size block_size (box name style content inner next) = on_page (is_horizontal style.mode) faces inline_size block_size

-- the root, which has its own mode and used direction and the sizes of the view, and boxes inside it
abbrev pub met_in : (faces : List (Option Table)) → (inline_size block_size : ℤ) → Boxes → Way → Option Met
met_in faces inline_size block_size no_boxes way = None
met_in faces inline_size block_size (box name style content inner next) way =
    met_on (outside_of faces inline_size block_size (box name style content inner next)) style
    (record { inline = Some inline_size; block = Some block_size }) (box name style content inner no_boxes) way

-- in a layout, the fragment of a box is what it comes to
abbrev pub FragmentIsOfItsBox : Type 0
FragmentIsOfItsBox = (faces : List (Option Table)) (inline_size block_size : ℤ) (tree : Boxes) (way : Way) (met : Met) → met_in faces inline_size block_size tree way ≡ Some met
    → fragment_on (layout faces inline_size block_size tree) way ≡ Some (comes_to (outside_of faces inline_size block_size tree) met).part

-- two layouts by the same faces on the same page, whatever else stands in them: a box at a place in one, and the same box at another place
-- in the other under the same constraint, have the same fragment
abbrev pub SameBoxSameFragment : Type 0
SameBoxSameFragment = (faces : List (Option Table)) (inline_size block_size other_inline other_block : ℤ) (tree other : Boxes) (way other_way : Way) (met : Met)
    → outside_of faces inline_size block_size tree ≡ outside_of faces other_inline other_block other
    → met_in faces inline_size block_size tree way ≡ Some met → met_in faces other_inline other_block other other_way ≡ Some met
    → fragment_on (layout faces inline_size block_size tree) way ≡ fragment_on (layout faces other_inline other_block other) other_way
