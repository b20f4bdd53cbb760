-- What the code takes for the property of the page is the one that the table has there.
use Rattle.std.proofs.Common.{refl}
use Rattle.wm_modes.specs.declared.mode.WritingMode.{WritingMode}
use Rattle.wm_modes.specs.declared.mode.Direction.{Direction}
use Rattle.wm_modes.specs.declared.sides.Side as side
use Rattle.wm_modes.specs.declared.sides.Side.TheVariants.{Top, Right, Bottom, Left}
use Rattle.wm_modes.specs.Sides.{side_of}
use Rattle.css_types.specs.declared.property.Property.{Property}
use Rattle.css_types.specs.declared.reach.SideFamily.{SideFamily}
use Rattle.css_types.specs.declared.reach.SideFamily.TheVariants.{Margin, Padding, BorderWidth, BorderStyle, Inset}
use Rattle.css_types.specs.declared.reach.AxisFamily.{AxisFamily}
use Rattle.css_types.specs.declared.reach.AxisFamily.TheVariants.{Size, MinSize, MaxSize}
use Rattle.css_types.specs.declared.reach.Axis as axis
use Rattle.css_types.specs.declared.reach.Axis.TheVariants.{Horizontal, Vertical}
use Rattle.css_types.specs.declared.reach.Reach as reach
use Rattle.css_types.specs.declared.reach.Reach.TheVariants.{Whole, PhysicalSide, FlowSide, PhysicalAxis, FlowAxis}
use Rattle.css_types.specs.Page.{IsAbout, StandsFor, about, side_property, axis_property}
use Rattle.css_types.specs.Reach.{on_page, axis_of}

about_side : (family : SideFamily) (s : side.Side) → IsAbout (PhysicalSide family s) (side_property family s)
about_side Margin Top = (_, (23, refl, refl), refl)
about_side Margin Right = (_, (24, refl, refl), refl)
about_side Margin Bottom = (_, (25, refl, refl), refl)
about_side Margin Left = (_, (26, refl, refl), refl)
about_side Padding Top = (_, (31, refl, refl), refl)
about_side Padding Right = (_, (32, refl, refl), refl)
about_side Padding Bottom = (_, (33, refl, refl), refl)
about_side Padding Left = (_, (34, refl, refl), refl)
about_side BorderWidth Top = (_, (39, refl, refl), refl)
about_side BorderWidth Right = (_, (40, refl, refl), refl)
about_side BorderWidth Bottom = (_, (41, refl, refl), refl)
about_side BorderWidth Left = (_, (42, refl, refl), refl)
about_side BorderStyle Top = (_, (47, refl, refl), refl)
about_side BorderStyle Right = (_, (48, refl, refl), refl)
about_side BorderStyle Bottom = (_, (49, refl, refl), refl)
about_side BorderStyle Left = (_, (50, refl, refl), refl)
about_side Inset Top = (_, (56, refl, refl), refl)
about_side Inset Right = (_, (57, refl, refl), refl)
about_side Inset Bottom = (_, (58, refl, refl), refl)
about_side Inset Left = (_, (59, refl, refl), refl)

about_axis : (family : AxisFamily) (a : axis.Axis) → IsAbout (PhysicalAxis family a) (axis_property family a)
about_axis Size Horizontal = (_, (11, refl, refl), refl)
about_axis Size Vertical = (_, (12, refl, refl), refl)
about_axis MinSize Horizontal = (_, (15, refl, refl), refl)
about_axis MinSize Vertical = (_, (16, refl, refl), refl)
about_axis MaxSize Horizontal = (_, (19, refl, refl), refl)
about_axis MaxSize Vertical = (_, (20, refl, refl), refl)

pub stands_for : (mode : WritingMode) (dir : Direction) (r : reach.Reach) (property : Property)
    → StandsFor (on_page mode dir r) property (about (on_page mode dir r) property)
stands_for mode dir Whole property = refl
stands_for mode dir (PhysicalSide family s) property = about_side family s
stands_for mode dir (FlowSide family s) property = about_side family (side_of mode dir s)
stands_for mode dir (PhysicalAxis family a) property = about_axis family a
stands_for mode dir (FlowAxis family a) property = about_axis family (axis_of mode a)
