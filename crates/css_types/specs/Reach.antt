-- What of a box a property is about once the mode and the used direction are known. CSS Logical Properties 1, 4.
use Rattle.std.specs.Prelude.{Bool, true, false}
use Rattle.wm_modes.specs.declared.mode.WritingMode.{WritingMode}
use Rattle.wm_modes.specs.declared.mode.Direction.{Direction}
use Rattle.wm_modes.specs.Mode.{is_horizontal}
use Rattle.wm_modes.specs.Sides.{side_of}
use Rattle.css_types.specs.declared.reach.Axis.{Axis}
use Rattle.css_types.specs.declared.reach.Axis.TheVariants.{Horizontal, Vertical}
use Rattle.css_types.specs.declared.reach.FlowAxis.TheVariants.{Inline, Block}
use Rattle.css_types.specs.declared.reach.FlowAxis as flow_axis
use Rattle.css_types.specs.declared.reach.Reach as reach
use Rattle.css_types.specs.declared.reach.Reach.TheVariants.{Whole, PhysicalSide, FlowSide, PhysicalAxis, FlowAxis}

-- which axis of the page an axis of the flow is, where lines run across the page and where they don't
abbrev pub axis_in : (horizontal : Bool) → flow_axis.FlowAxis → Axis
axis_in true Inline = Horizontal
axis_in true Block = Vertical
axis_in false Inline = Vertical
axis_in false Block = Horizontal

abbrev pub axis_of : WritingMode → flow_axis.FlowAxis → Axis
axis_of mode axis = axis_in (is_horizontal mode) axis

-- a side of the flow is that side of the page, an axis of the flow that axis; all else stays
abbrev pub on_page : WritingMode → Direction → reach.Reach → reach.Reach
on_page mode dir Whole = Whole
on_page mode dir (PhysicalSide family side) = PhysicalSide family side
on_page mode dir (FlowSide family side) = PhysicalSide family (side_of mode dir side)
on_page mode dir (PhysicalAxis family axis) = PhysicalAxis family axis
on_page mode dir (FlowAxis family axis) = PhysicalAxis family (axis_of mode axis)
