-- Which property of the page stands for a property of a flow. CSS Logical Properties 1, 4.
use Rattle.std.specs.Prelude.{◌≡◌, Option, Some, None}
use Rattle.wm_modes.specs.declared.mode.WritingMode.{WritingMode}
use Rattle.wm_modes.specs.declared.mode.Direction.{Direction}
use Rattle.wm_modes.specs.declared.sides.Side as side
use Rattle.wm_modes.specs.declared.sides.Side.TheVariants.{Top, Right, Bottom, Left}
use Rattle.css_types.specs.declared.property.Property.{Property}
use Rattle.css_types.specs.declared.property.Property.TheVariants as properties
use Rattle.css_types.specs.declared.reach.SideFamily.{SideFamily}
use Rattle.css_types.specs.declared.reach.SideFamily.TheVariants.{Margin, Padding, BorderWidth, BorderStyle, Inset}
use Rattle.css_types.specs.declared.reach.AxisFamily.{AxisFamily}
use Rattle.css_types.specs.declared.reach.AxisFamily.TheVariants.{Size, MinSize, MaxSize}
use Rattle.css_types.specs.declared.reach.Axis as axis
use Rattle.css_types.specs.declared.reach.Axis.TheVariants.{Horizontal, Vertical}
use Rattle.css_types.specs.declared.reach.Reach as reach
use Rattle.css_types.specs.declared.reach.Reach.TheVariants.{Whole, PhysicalSide, FlowSide, PhysicalAxis, FlowAxis}
use Rattle.css_types.specs.declared.table.PropertyRow.{PropertyRow}
use Rattle.css_types.specs.Table.{IsRowOf, row_of}
use Rattle.css_types.specs.Reach.{on_page}

-- by its row the property is about this of a box
abbrev pub IsAbout : reach.Reach → Property → Type 0
IsAbout r property = (row : PropertyRow) × IsRowOf property row × (row.reach ≡ r)

-- the page's property for a property that comes to be about this: itself where that is the whole box, else that
-- which is about this
abbrev pub StandsFor : reach.Reach → (property page : Property) → Type 0
StandsFor Whole property page = page ≡ property
StandsFor (PhysicalSide family s) property page = IsAbout (PhysicalSide family s) page
StandsFor (FlowSide family s) property page = IsAbout (FlowSide family s) page
StandsFor (PhysicalAxis family a) property page = IsAbout (PhysicalAxis family a) page
StandsFor (FlowAxis family a) property page = IsAbout (FlowAxis family a) page

-- the property of the page that stands for a property in this mode and used direction
abbrev pub IsPageOf : WritingMode → Direction → (property page : Property) → Type 0
IsPageOf mode dir property page = (row : PropertyRow) × IsRowOf property row × StandsFor (on_page mode dir row.reach) property page

-- ---- the same as a function

abbrev pub side_property : SideFamily → side.Side → Property
side_property Margin Top = properties.MarginTop
side_property Margin Right = properties.MarginRight
side_property Margin Bottom = properties.MarginBottom
side_property Margin Left = properties.MarginLeft
side_property Padding Top = properties.PaddingTop
side_property Padding Right = properties.PaddingRight
side_property Padding Bottom = properties.PaddingBottom
side_property Padding Left = properties.PaddingLeft
side_property BorderWidth Top = properties.BorderTopWidth
side_property BorderWidth Right = properties.BorderRightWidth
side_property BorderWidth Bottom = properties.BorderBottomWidth
side_property BorderWidth Left = properties.BorderLeftWidth
side_property BorderStyle Top = properties.BorderTopStyle
side_property BorderStyle Right = properties.BorderRightStyle
side_property BorderStyle Bottom = properties.BorderBottomStyle
side_property BorderStyle Left = properties.BorderLeftStyle
side_property Inset Top = properties.InsetTop
side_property Inset Right = properties.InsetRight
side_property Inset Bottom = properties.InsetBottom
side_property Inset Left = properties.InsetLeft

abbrev pub axis_property : AxisFamily → axis.Axis → Property
axis_property Size Horizontal = properties.Width
axis_property Size Vertical = properties.Height
axis_property MinSize Horizontal = properties.MinWidth
axis_property MinSize Vertical = properties.MinHeight
axis_property MaxSize Horizontal = properties.MaxWidth
axis_property MaxSize Vertical = properties.MaxHeight

abbrev pub about : reach.Reach → Property → Property
about Whole other = other
about (PhysicalSide family s) other = side_property family s
about (FlowSide family s) other = other
about (PhysicalAxis family a) other = axis_property family a
about (FlowAxis family a) other = other

abbrev pub page_by : Option PropertyRow → WritingMode → Direction → Property → Property
page_by None mode dir property = property
page_by (Some row) mode dir property = about (on_page mode dir row.reach) property

-- the property of the page that stands for a property in this mode and used direction
abbrev pub page_of : WritingMode → Direction → Property → Property
page_of mode dir property = page_by (row_of property) mode dir property
