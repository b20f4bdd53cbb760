-- Exactly one property is about each side and each axis; each side and axis of the page is one of the flow.
use Rattle.std.specs.Prelude.{◌≡◌}
use Rattle.std.proofs.Common.{refl}
use Rattle.wm_modes.specs.declared.mode.WritingMode.{WritingMode}
use Rattle.wm_modes.specs.declared.mode.WritingMode.TheVariants.{HorizontalTb, VerticalRl, VerticalLr, SidewaysRl, SidewaysLr}
use Rattle.wm_modes.specs.declared.mode.Direction.{Direction}
use Rattle.wm_modes.specs.declared.mode.Direction.TheVariants.{Ltr, Rtl}
use Rattle.wm_modes.specs.declared.sides.Side as side
use Rattle.wm_modes.specs.declared.sides.Side.TheVariants.{Top, Right, Bottom, Left}
use Rattle.wm_modes.specs.declared.sides.FlowSide as flow_side
use Rattle.wm_modes.specs.declared.sides.FlowSide.TheVariants.{BlockStart, BlockEnd, InlineStart, InlineEnd}
use Rattle.css_types.specs.declared.reach.SideFamily.{SideFamily}
use Rattle.css_types.specs.declared.reach.SideFamily.TheVariants.{Margin, Padding, BorderWidth, BorderStyle, Inset}
use Rattle.css_types.specs.declared.reach.AxisFamily.{AxisFamily}
use Rattle.css_types.specs.declared.reach.AxisFamily.TheVariants.{Size, MinSize, MaxSize}
use Rattle.css_types.specs.declared.reach.Axis as axis
use Rattle.css_types.specs.declared.reach.Axis.TheVariants.{Horizontal, Vertical}
use Rattle.css_types.specs.declared.reach.FlowAxis as flow_axis
use Rattle.css_types.specs.declared.reach.FlowAxis.TheVariants.{Inline, Block}
use Rattle.css_types.specs.declared.reach.Reach.TheVariants.{PhysicalSide, FlowSide, PhysicalAxis, FlowAxis}
use Rattle.css_types.specs.Laws.{HasOne}
use Rattle.css_types.specs.Reach.{on_page}

pub one_physical_side : (family : SideFamily) (s : side.Side) → HasOne (PhysicalSide family s)
one_physical_side Margin Top = (_, refl)
one_physical_side Margin Right = (_, refl)
one_physical_side Margin Bottom = (_, refl)
one_physical_side Margin Left = (_, refl)
one_physical_side Padding Top = (_, refl)
one_physical_side Padding Right = (_, refl)
one_physical_side Padding Bottom = (_, refl)
one_physical_side Padding Left = (_, refl)
one_physical_side BorderWidth Top = (_, refl)
one_physical_side BorderWidth Right = (_, refl)
one_physical_side BorderWidth Bottom = (_, refl)
one_physical_side BorderWidth Left = (_, refl)
one_physical_side BorderStyle Top = (_, refl)
one_physical_side BorderStyle Right = (_, refl)
one_physical_side BorderStyle Bottom = (_, refl)
one_physical_side BorderStyle Left = (_, refl)
one_physical_side Inset Top = (_, refl)
one_physical_side Inset Right = (_, refl)
one_physical_side Inset Bottom = (_, refl)
one_physical_side Inset Left = (_, refl)

pub one_physical_axis : (family : AxisFamily) (a : axis.Axis) → HasOne (PhysicalAxis family a)
one_physical_axis Size Horizontal = (_, refl)
one_physical_axis Size Vertical = (_, refl)
one_physical_axis MinSize Horizontal = (_, refl)
one_physical_axis MinSize Vertical = (_, refl)
one_physical_axis MaxSize Horizontal = (_, refl)
one_physical_axis MaxSize Vertical = (_, refl)

-- a side of the flow that a property is about
one_block_start : (family : SideFamily) → HasOne (FlowSide family BlockStart)
one_block_start Margin = (_, refl)
one_block_start Padding = (_, refl)
one_block_start BorderWidth = (_, refl)
one_block_start BorderStyle = (_, refl)
one_block_start Inset = (_, refl)

one_block_end : (family : SideFamily) → HasOne (FlowSide family BlockEnd)
one_block_end Margin = (_, refl)
one_block_end Padding = (_, refl)
one_block_end BorderWidth = (_, refl)
one_block_end BorderStyle = (_, refl)
one_block_end Inset = (_, refl)

one_inline_start : (family : SideFamily) → HasOne (FlowSide family InlineStart)
one_inline_start Margin = (_, refl)
one_inline_start Padding = (_, refl)
one_inline_start BorderWidth = (_, refl)
one_inline_start BorderStyle = (_, refl)
one_inline_start Inset = (_, refl)

one_inline_end : (family : SideFamily) → HasOne (FlowSide family InlineEnd)
one_inline_end Margin = (_, refl)
one_inline_end Padding = (_, refl)
one_inline_end BorderWidth = (_, refl)
one_inline_end BorderStyle = (_, refl)
one_inline_end Inset = (_, refl)

pub each_side : (mode : WritingMode) (dir : Direction) (family : SideFamily) (s : side.Side)
    → (f : flow_side.FlowSide) × HasOne (FlowSide family f) × (on_page mode dir (FlowSide family f) ≡ PhysicalSide family s)
each_side HorizontalTb Ltr family Top = (BlockStart, one_block_start family, refl)
each_side HorizontalTb Ltr family Right = (InlineEnd, one_inline_end family, refl)
each_side HorizontalTb Ltr family Bottom = (BlockEnd, one_block_end family, refl)
each_side HorizontalTb Ltr family Left = (InlineStart, one_inline_start family, refl)
each_side HorizontalTb Rtl family Top = (BlockStart, one_block_start family, refl)
each_side HorizontalTb Rtl family Right = (InlineStart, one_inline_start family, refl)
each_side HorizontalTb Rtl family Bottom = (BlockEnd, one_block_end family, refl)
each_side HorizontalTb Rtl family Left = (InlineEnd, one_inline_end family, refl)
each_side VerticalRl Ltr family Top = (InlineStart, one_inline_start family, refl)
each_side VerticalRl Ltr family Right = (BlockStart, one_block_start family, refl)
each_side VerticalRl Ltr family Bottom = (InlineEnd, one_inline_end family, refl)
each_side VerticalRl Ltr family Left = (BlockEnd, one_block_end family, refl)
each_side VerticalRl Rtl family Top = (InlineEnd, one_inline_end family, refl)
each_side VerticalRl Rtl family Right = (BlockStart, one_block_start family, refl)
each_side VerticalRl Rtl family Bottom = (InlineStart, one_inline_start family, refl)
each_side VerticalRl Rtl family Left = (BlockEnd, one_block_end family, refl)
each_side VerticalLr Ltr family Top = (InlineStart, one_inline_start family, refl)
each_side VerticalLr Ltr family Right = (BlockEnd, one_block_end family, refl)
each_side VerticalLr Ltr family Bottom = (InlineEnd, one_inline_end family, refl)
each_side VerticalLr Ltr family Left = (BlockStart, one_block_start family, refl)
each_side VerticalLr Rtl family Top = (InlineEnd, one_inline_end family, refl)
each_side VerticalLr Rtl family Right = (BlockEnd, one_block_end family, refl)
each_side VerticalLr Rtl family Bottom = (InlineStart, one_inline_start family, refl)
each_side VerticalLr Rtl family Left = (BlockStart, one_block_start family, refl)
each_side SidewaysRl Ltr family Top = (InlineStart, one_inline_start family, refl)
each_side SidewaysRl Ltr family Right = (BlockStart, one_block_start family, refl)
each_side SidewaysRl Ltr family Bottom = (InlineEnd, one_inline_end family, refl)
each_side SidewaysRl Ltr family Left = (BlockEnd, one_block_end family, refl)
each_side SidewaysRl Rtl family Top = (InlineEnd, one_inline_end family, refl)
each_side SidewaysRl Rtl family Right = (BlockStart, one_block_start family, refl)
each_side SidewaysRl Rtl family Bottom = (InlineStart, one_inline_start family, refl)
each_side SidewaysRl Rtl family Left = (BlockEnd, one_block_end family, refl)
each_side SidewaysLr Ltr family Top = (InlineEnd, one_inline_end family, refl)
each_side SidewaysLr Ltr family Right = (BlockEnd, one_block_end family, refl)
each_side SidewaysLr Ltr family Bottom = (InlineStart, one_inline_start family, refl)
each_side SidewaysLr Ltr family Left = (BlockStart, one_block_start family, refl)
each_side SidewaysLr Rtl family Top = (InlineStart, one_inline_start family, refl)
each_side SidewaysLr Rtl family Right = (BlockEnd, one_block_end family, refl)
each_side SidewaysLr Rtl family Bottom = (InlineEnd, one_inline_end family, refl)
each_side SidewaysLr Rtl family Left = (BlockStart, one_block_start family, refl)

one_inline_size : (family : AxisFamily) → HasOne (FlowAxis family Inline)
one_inline_size Size = (_, refl)
one_inline_size MinSize = (_, refl)
one_inline_size MaxSize = (_, refl)

one_block_size : (family : AxisFamily) → HasOne (FlowAxis family Block)
one_block_size Size = (_, refl)
one_block_size MinSize = (_, refl)
one_block_size MaxSize = (_, refl)

pub each_axis : (mode : WritingMode) (dir : Direction) (family : AxisFamily) (a : axis.Axis)
    → (f : flow_axis.FlowAxis) × HasOne (FlowAxis family f) × (on_page mode dir (FlowAxis family f) ≡ PhysicalAxis family a)
each_axis HorizontalTb dir family Horizontal = (Inline, one_inline_size family, refl)
each_axis HorizontalTb dir family Vertical = (Block, one_block_size family, refl)
each_axis VerticalRl dir family Horizontal = (Block, one_block_size family, refl)
each_axis VerticalRl dir family Vertical = (Inline, one_inline_size family, refl)
each_axis VerticalLr dir family Horizontal = (Block, one_block_size family, refl)
each_axis VerticalLr dir family Vertical = (Inline, one_inline_size family, refl)
each_axis SidewaysRl dir family Horizontal = (Block, one_block_size family, refl)
each_axis SidewaysRl dir family Vertical = (Inline, one_inline_size family, refl)
each_axis SidewaysLr dir family Horizontal = (Block, one_block_size family, refl)
each_axis SidewaysLr dir family Vertical = (Inline, one_inline_size family, refl)
