-- Flow layout: what a box comes to, by the sizes of its containing block. It goes by recursion on the tree of boxes, and remembers nothing.
use Rattle.std.specs.Prelude.{Bool, true, false, ◌&&◌, List, [], ◌∷◌, map, Option, Some, None, is_none, ℤ}
use Rattle.face_api.specs.Table.{Table}
use Rattle.wm_modes.specs.Mode.{is_horizontal}
use Rattle.wm_modes.specs.Sides.{block_start}
use Rattle.fragment_types.specs.declared.constraint.Constraint.{Constraint}
use Rattle.style_types.specs.declared.style.Style.{Style}
use Rattle.fragment_types.specs.Fragment.{Pieces, none}
use Rattle.block_flow.specs.Adjoining.{edges}
use Rattle.box_arena.specs.At.{Node}
use Rattle.box_gen.specs.Tree.{Boxes, none as no_boxes, box}
use Rattle.line_fill.specs.declared.item.Intrinsic.{Intrinsic}
use Rattle.relayout.specs.declared.sizes.Containing.{Containing}
use Rattle.relayout.specs.declared.sizes.Sizes.{Sizes}
use Rattle.relayout.specs.Boxed.{block_box, boxed, handed_on, measured}
use Rattle.relayout.specs.Content.{filled}
use Rattle.relayout.specs.Edges.{margin_or_zero}
use Rattle.relayout.specs.Flowed.{Flowed, Laid, Member, at}
use Rattle.relayout.specs.Inline.{Outside, inline_place, inline_size}
use Rattle.relayout.specs.Intrinsic.{inner}
use Rattle.relayout.specs.Sizes.{containing_of, given, hold_both, is_parallel, sizes_along}

-- the min-content and the max-content size of its content area, under an inline size that isn't known: a given size, or those of its content, held
abbrev pub asked_by : Option ℤ → Sizes → Outside → Node → (handed : Option ℤ) → List Member → Intrinsic
asked_by (Some size) sizes outside node handed members = record { min = size; max = size }
asked_by None sizes outside node handed members = hold_both sizes (inner outside.faces node.style node.content handed members)

unfoldable pub asked : Outside → Containing → Node → Constraint → List Member → Intrinsic
asked outside containing node c members =
    let sizes = sizes_along containing.mode node.style None in
    asked_by (given sizes) sizes outside node (handed_on containing node c) members

abbrev pub laid_under : Constraint → Member → Laid
laid_under c member = record { style = member.style; flowed = member.flow c }

unfoldable pub laid_out : Outside → Containing → Node → Constraint → List Member → Flowed
laid_out outside containing node c members =
    let handed = handed_on containing node c in
    let size = inline_size outside containing node.style node.content c handed members in
    boxed containing node c size (
    filled outside.faces node.name node.style (edges (block_box containing node.style c false)) size node.content
    (map (laid_under (record { inline = Some size; block = handed })) members))

-- ---- a box by its members, and the recursion

abbrev pub answered : (measures : Bool) → Outside → Containing → Node → Constraint → List Member → Flowed
answered true outside containing node c members = measured containing node (asked outside containing node c members)
answered false outside containing node c members = laid_out outside containing node c members

unfoldable pub flow_step : Outside → Containing → Node → List Member → Constraint → Flowed
flow_step outside containing node members c =
    answered (is_parallel containing node.style && is_none c.inline) outside containing node c members

-- boxes in a containing block, each as a function of the constraint
abbrev pub members : Outside → Containing → Boxes → List Member
members outside containing no_boxes = []
members outside containing (box name style content inner next) =
    record { style = style; flow = flow_step outside containing (record { name = name; style = style; content = content }) (members outside (containing_of style) inner) }
    ∷ members outside containing next

-- ---- the whole

-- the root stands in the view, which has its own mode and direction
abbrev pub view_of : Style → (inline_size block_size : ℤ) → List Member → Pieces
view_of style inline_size block_size [] = none
view_of style inline_size block_size (member ∷ _) =
    let laid = laid_under (record { inline = Some inline_size; block = Some block_size }) member in
    at (inline_place (containing_of style) inline_size style laid.flowed.part.rect.inline) (margin_or_zero style (Some inline_size) (block_start style.mode)) laid.flowed.part none

abbrev pub on_page : (horizontal : Bool) → (faces : List (Option Table)) → (inline_size block_size : ℤ) → Outside
on_page true faces inline_size block_size = record { faces = faces; view = record { across = inline_size; down = block_size } }
on_page false faces inline_size block_size = record { faces = faces; view = record { across = block_size; down = inline_size } }

-- the layout of a tree of boxes in a view of these sizes, which are told in the root's mode
abbrev pub layout : (faces : List (Option Table)) → (inline_size block_size : ℤ) → Boxes → Pieces
layout faces inline_size block_size no_boxes = none
layout faces inline_size block_size (box name style content inner next) =
    view_of style inline_size block_size (members (on_page (is_horizontal style.mode) faces inline_size block_size) (containing_of style) (box name style content inner no_boxes))
