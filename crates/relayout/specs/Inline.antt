-- The inline size of a box. CSS 2, 10.3.3 and 10.3.9; CSS Writing Modes 4, 7.3.
use Rattle.std.specs.Prelude.{Bool, true, false, not, ◌&&◌, List, Option, Some, None, unwrap_or, ℤ, pos, ◌+ℤ◌, ◌-ℤ◌}
use Rattle.wm_modes.specs.declared.mode.WritingMode.{WritingMode}
use Rattle.wm_modes.specs.declared.sides.FlowSide.TheVariants.{InlineStart, InlineEnd}
use Rattle.wm_modes.specs.Mode.{is_horizontal}
use Rattle.wm_modes.specs.Sides.{side_of}
use Rattle.face_api.specs.Table.{Table}
use Rattle.fragment_types.specs.declared.constraint.Constraint.{Constraint}
use Rattle.style_types.specs.declared.style.Style.{Style}
use Rattle.box_gen.specs.Tree.{Content}
use Rattle.ortho_flow.specs.Orthogonal.{available}
use Rattle.size_rules.specs.declared.equation.Used.{Used}
use Rattle.size_rules.specs.Equation.{equation, settled}
use Rattle.size_rules.specs.Limits.{fit}
use Rattle.line_fill.specs.declared.item.Intrinsic.{Intrinsic}
use Rattle.relayout.specs.declared.inline.PageView.{PageView}
use Rattle.relayout.specs.declared.sizes.Containing.{Containing}
use Rattle.relayout.specs.Edges.{inner_edges_along, margin, margins_along}
use Rattle.relayout.specs.Flowed.{Member}
use Rattle.relayout.specs.Intrinsic.{inner}
use Rattle.relayout.specs.Sizes.{given, hold, inline_sizes, is_atom, is_parallel, sizes_along}

-- what layout is given from outside: the faces and the view
pub record Outside : Type 0 where
  pub faces : List (Option Table)
  pub view : PageView

abbrev pub view_on : (across : Bool) → PageView → ℤ
view_on true view = view.across
view_on false view = view.down

abbrev pub start_margin : Containing → Style → (inline : ℤ) → Option ℤ
start_margin containing style inline = margin style (Some inline) (side_of containing.mode containing.dir InlineStart)

abbrev pub end_margin : Containing → Style → (inline : ℤ) → Option ℤ
end_margin containing style inline = margin style (Some inline) (side_of containing.mode containing.dir InlineEnd)

-- a block-level box that goes along its containing block's lines fills its inline size with its margins, borders and paddings
unfoldable pub equation_of : Containing → Style → (inline : ℤ) → Used
equation_of containing style inline =
    let sizes = sizes_along containing.mode style (Some inline) in
    equation inline (inner_edges_along style (Some inline) containing.mode) sizes.size sizes.min sizes.max
    (start_margin containing style inline) (end_margin containing style inline)

-- the available size on the inline axis of another box with an auto size: of the containing block's inline size, or, for an orthogonal one, of
-- its block size or the view's
abbrev pub room : PageView → (parallel : Bool) → Constraint → (mode : WritingMode) → (around : ℤ) → ℤ
room view true c mode around = available c.inline (pos 0) around
room view false c mode around = available c.block (view_on (is_horizontal mode) view) around

abbrev pub around : Style → Constraint → ℤ
around style c = inner_edges_along style c.inline style.mode +ℤ margins_along style c.inline style.mode

-- it shrinks to fit its content, which has these sizes
unfoldable pub shrunk : PageView → Containing → Style → Constraint → (content : Intrinsic) → ℤ
shrunk view containing style c content =
    hold (inline_sizes containing style c) (fit content.min content.max (room view (is_parallel containing style) c style.mode (around style c)))

-- it fills its containing block's inline size
abbrev pub fills : Containing → Style → Bool
fills containing style = is_parallel containing style && not (is_atom style.display)

abbrev pub known_by : (fills : Bool) → Containing → Style → Constraint → Option ℤ
known_by true containing style c = Some (equation_of containing style (unwrap_or c.inline (pos 0))).size
known_by false containing style c = given (inline_sizes containing style c)

-- the inline size that is definite, as it doesn't depend on the content: that of a box that fills its containing block, or one that is given
unfoldable pub known_size : Containing → Style → Constraint → Option ℤ
known_size containing style c = known_by (fills containing style) containing style c

abbrev pub known_or_shrunk : Option ℤ → Outside → Containing → Style → Content → Constraint → (handed : Option ℤ) → List Member → ℤ
known_or_shrunk (Some size) outside containing style content c handed members = size
known_or_shrunk None outside containing style content c handed members =
    shrunk outside.view containing style c (inner outside.faces style content handed members)

-- the inline size of a box's content area
unfoldable pub inline_size : Outside → Containing → Style → Content → Constraint → (handed : Option ℤ) → List Member → ℤ
inline_size outside containing style content c handed members =
    known_or_shrunk (known_size containing style c) outside containing style content c handed members

-- an orthogonal child, whose border box has this extent, has its block size as the given size
abbrev pub orthogonal_place : Containing → (inline : ℤ) → Style → (extent : ℤ) → ℤ
orthogonal_place containing inline style extent =
    (settled (inline -ℤ extent) extent (start_margin containing style inline) (end_margin containing style inline)).start

-- where the border box of a block-level child of this extent stands from the inline-start edge of its containing block
abbrev pub inline_place_by : (parallel : Bool) → Containing → (inline : ℤ) → Style → (extent : ℤ) → ℤ
inline_place_by true containing inline style extent = (equation_of containing style inline).start
inline_place_by false containing inline style extent = orthogonal_place containing inline style extent

unfoldable pub inline_place : Containing → (inline : ℤ) → Style → (extent : ℤ) → ℤ
inline_place containing inline style extent = inline_place_by (is_parallel containing style) containing inline style extent
