-- What holds of the table of properties. CSS Logical Properties 1, 4.
use Rattle.std.specs.Prelude.{◌≡◌, Bool, true, false, ◌&&◌, List, [], ◌∷◌, map, filter}
use Rattle.wm_modes.specs.declared.mode.WritingMode.{WritingMode}
use Rattle.wm_modes.specs.declared.mode.Direction.{Direction}
use Rattle.wm_modes.specs.declared.sides.Side as side
use Rattle.wm_modes.specs.declared.sides.Side.TheVariants.{Top, Right, Bottom, Left}
use Rattle.wm_modes.specs.declared.sides.FlowSide as flow_side
use Rattle.wm_modes.specs.declared.sides.FlowSide.TheVariants.{BlockStart, BlockEnd, InlineStart, InlineEnd, LineOver, LineUnder, LineLeft, LineRight}
use Rattle.css_types.specs.declared.property.Property.{Property}
use Rattle.css_types.specs.declared.reach.SideFamily.{SideFamily}
use Rattle.css_types.specs.declared.reach.SideFamily.TheVariants.{Margin, Padding, BorderWidth, BorderStyle, Inset}
use Rattle.css_types.specs.declared.reach.AxisFamily.{AxisFamily}
use Rattle.css_types.specs.declared.reach.AxisFamily.TheVariants.{Size, MinSize, MaxSize}
use Rattle.css_types.specs.declared.reach.Axis as axis
use Rattle.css_types.specs.declared.reach.Axis.TheVariants.{Horizontal, Vertical}
use Rattle.css_types.specs.declared.reach.FlowAxis as flow_axis
use Rattle.css_types.specs.declared.reach.FlowAxis.TheVariants.{Inline, Block}
use Rattle.css_types.specs.declared.reach.Reach as reach
use Rattle.css_types.specs.declared.reach.Reach.TheVariants.{Whole, PhysicalSide, FlowSide, PhysicalAxis, FlowAxis}
use Rattle.css_types.specs.declared.property.Property.TheVariants as properties
use Rattle.css_types.specs.declared.table.PropertyRow.{PropertyRow}
use Rattle.css_types.specs.Table.{rows, IsRowOf}
use Rattle.css_types.specs.Reach.{on_page}

-- ---- whether two are the same

abbrev pub same_side_family : SideFamily → SideFamily → Bool
same_side_family Margin Margin = true
same_side_family Padding Padding = true
same_side_family BorderWidth BorderWidth = true
same_side_family BorderStyle BorderStyle = true
same_side_family Inset Inset = true
same_side_family a b = false

abbrev pub same_axis_family : AxisFamily → AxisFamily → Bool
same_axis_family Size Size = true
same_axis_family MinSize MinSize = true
same_axis_family MaxSize MaxSize = true
same_axis_family a b = false

abbrev pub same_side : side.Side → side.Side → Bool
same_side Top Top = true
same_side Right Right = true
same_side Bottom Bottom = true
same_side Left Left = true
same_side a b = false

abbrev pub same_flow_side : flow_side.FlowSide → flow_side.FlowSide → Bool
same_flow_side BlockStart BlockStart = true
same_flow_side BlockEnd BlockEnd = true
same_flow_side InlineStart InlineStart = true
same_flow_side InlineEnd InlineEnd = true
same_flow_side LineOver LineOver = true
same_flow_side LineUnder LineUnder = true
same_flow_side LineLeft LineLeft = true
same_flow_side LineRight LineRight = true
same_flow_side a b = false

abbrev pub same_axis : axis.Axis → axis.Axis → Bool
same_axis Horizontal Horizontal = true
same_axis Vertical Vertical = true
same_axis a b = false

abbrev pub same_flow_axis : flow_axis.FlowAxis → flow_axis.FlowAxis → Bool
same_flow_axis Inline Inline = true
same_flow_axis Block Block = true
same_flow_axis a b = false

abbrev pub same_reach : reach.Reach → reach.Reach → Bool
same_reach Whole Whole = true
same_reach (PhysicalSide f a) (PhysicalSide g b) = same_side_family f g && same_side a b
same_reach (FlowSide f a) (FlowSide g b) = same_side_family f g && same_flow_side a b
same_reach (PhysicalAxis f a) (PhysicalAxis g b) = same_axis_family f g && same_axis a b
same_reach (FlowAxis f a) (FlowAxis g b) = same_axis_family f g && same_flow_axis a b
same_reach a b = false

-- ---- the laws

-- the properties that are about this of a box
abbrev pub about : reach.Reach → List Property
about r = map (λ row. row.property) (filter (λ row. same_reach r row.reach) rows)

-- exactly one property is about this
abbrev pub HasOne : reach.Reach → Type 0
HasOne r = (property : Property) × (about r ≡ property ∷ [])

pub record PairUp : Type 0 where
  -- exactly one property of the page stands for each of the flow
  pub one_side : (mode : WritingMode) (dir : Direction) (family : SideFamily) (s : flow_side.FlowSide) → HasOne (on_page mode dir (FlowSide family s))
  pub one_axis : (mode : WritingMode) (dir : Direction) (family : AxisFamily) (a : flow_axis.FlowAxis) → HasOne (on_page mode dir (FlowAxis family a))
  -- each of the page stands for exactly one of the flow
  pub each_side : (mode : WritingMode) (dir : Direction) (family : SideFamily) (s : side.Side)
      → (f : flow_side.FlowSide) × HasOne (FlowSide family f) × (on_page mode dir (FlowSide family f) ≡ PhysicalSide family s)
  pub each_axis : (mode : WritingMode) (dir : Direction) (family : AxisFamily) (a : axis.Axis)
      → (f : flow_axis.FlowAxis) × HasOne (FlowAxis family f) × (on_page mode dir (FlowAxis family f) ≡ PhysicalAxis family a)

-- each property has a row
abbrev pub AllListed : Type 0
AllListed = (property : Property) → (row : PropertyRow) × IsRowOf property row

-- and no other
abbrev pub OnlyRows : Type 0
OnlyRows = (property : Property) (a b : PropertyRow) → IsRowOf property a → IsRowOf property b → a ≡ b

-- the inherited ones are those that say how text is set
abbrev pub TextInherited : Type 0
TextInherited = map (λ row. row.property) (filter (λ row. row.inherited) rows)
    ≡ properties.WritingMode ∷ properties.Direction ∷ properties.TextOrientation ∷ properties.TextCombineUpright
    ∷ properties.FontSize ∷ properties.FontFamily ∷ properties.LineHeight ∷ properties.TextAlign ∷ []
