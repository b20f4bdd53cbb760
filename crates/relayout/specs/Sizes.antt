-- Sizes of boxes: what a style asks for on an axis, which sizes of the containing block it refers to, and which block size is
-- definite. CSS 2, 10.2 to 10.7; CSS Writing Modes 4, 7.1 to 7.3.
use Rattle.std.specs.Prelude.{Bool, true, false, not, Option, option_map, ℤ}
use Rattle.wm_modes.specs.declared.mode.WritingMode.{WritingMode}
use Rattle.wm_modes.specs.Mode.{are_parallel, is_horizontal}
use Rattle.line_fill.specs.declared.item.Intrinsic.{Intrinsic}
use Rattle.para_prepare.specs.Parts.{used_direction}
use Rattle.size_rules.specs.Definite.{definite_block}
use Rattle.size_rules.specs.Limits.{used_size}
use Rattle.size_rules.specs.Resolving.{resolved, resolved_or_zero}
use Rattle.fragment_types.specs.declared.constraint.Constraint.{Constraint}
use Rattle.style_types.specs.declared.style.Display.{Display}
use Rattle.style_types.specs.declared.style.Display.TheVariants as displays
use Rattle.style_types.specs.declared.style.Style.{Style}
use Rattle.relayout.specs.declared.sizes.Containing.{Containing}
use Rattle.relayout.specs.declared.sizes.DeclaredSizes.{DeclaredSizes}
use Rattle.relayout.specs.declared.sizes.Sizes.{Sizes}

-- what a box is to the boxes in it
abbrev pub containing_of : Style → Containing
containing_of style = record { mode = style.mode; dir = used_direction style }

-- a size, a minimum and a maximum across the page or down the page, as a style declares them
abbrev pub declared_on : (across : Bool) → Style → DeclaredSizes
declared_on true style = record { size = style.width; min = style.min_width; max = style.max_width }
declared_on false style = record { size = style.height; min = style.min_height; max = style.max_height }

-- what a style asks for along the lines of a mode, where percentages refer to `base`
abbrev pub sizes_along : WritingMode → Style → (base : Option ℤ) → Sizes
sizes_along mode style base =
    let declared = declared_on (is_horizontal mode) style in
    record { size = resolved declared.size base; min = resolved_or_zero declared.min base; max = resolved declared.max base }

-- what it asks for across the lines of a mode: the size, where it is definite
abbrev pub sizes_across : WritingMode → Style → (base : Option ℤ) → Sizes
sizes_across mode style base =
    let declared = declared_on (not (is_horizontal mode)) style in
    record { size = definite_block declared.size base; min = resolved_or_zero declared.min base; max = resolved declared.max base }

abbrev pub hold : Sizes → ℤ → ℤ
hold sizes size = used_size size sizes.min sizes.max

abbrev pub hold_both : Sizes → Intrinsic → Intrinsic
hold_both sizes content = record { min = hold sizes content.min; max = hold sizes content.max }

-- a size that isn't auto, held
abbrev pub given : Sizes → Option ℤ
given sizes = option_map (hold sizes) sizes.size

-- its lines go along those of its containing block, or across the page where those go down
abbrev pub is_parallel : Containing → Style → Bool
is_parallel containing style = are_parallel containing.mode style.mode

-- its own axes have the containing block's sizes, in the other order where it is orthogonal
abbrev pub inline_base : (parallel : Bool) → Constraint → Option ℤ
inline_base true c = c.inline
inline_base false c = c.block

abbrev pub block_base : (parallel : Bool) → Constraint → Option ℤ
block_base true c = c.block
block_base false c = c.inline

abbrev pub inline_sizes : Containing → Style → Constraint → Sizes
inline_sizes containing style c = sizes_along style.mode style (inline_base (is_parallel containing style) c)

abbrev pub block_sizes : Containing → Style → Constraint → Sizes
block_sizes containing style c = sizes_across style.mode style (block_base (is_parallel containing style) c)

-- the block size, where it is definite: a length, or a percentage of a size that is
abbrev pub definite : Containing → Style → Constraint → Option ℤ
definite containing style c = given (block_sizes containing style c)

-- an inline-block stands in a paragraph
abbrev pub is_atom : Display → Bool
is_atom displays.InlineBlock = true
is_atom _ = false

abbrev pub is_flow_root : Display → Bool
is_flow_root displays.InlineBlock = true
is_flow_root displays.FlowRoot = true
is_flow_root _ = false
