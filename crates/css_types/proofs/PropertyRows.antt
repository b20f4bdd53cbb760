-- The table of properties, row by row. docs/PROFILE/properties.md has the same rows.
use Rattle.std.specs.Prelude.{◌≡◌, ℕ, Bool, true, false, List, [], ◌∷◌, map, codes, pos}
use Rattle.std.proofs.Common.{refl, take, drop}
use Rattle.wm_modes.specs.declared.sides.Side.TheVariants.{Top, Right, Bottom, Left}
use Rattle.wm_modes.specs.declared.sides.FlowSide.TheVariants.{BlockStart, BlockEnd, InlineStart, InlineEnd}
use Rattle.css_types.specs.declared.keyword.Keyword.TheVariants as words
use Rattle.css_types.specs.declared.keyword.Keywords.{Keywords}
use Rattle.css_types.specs.declared.keyword.Keywords.TheVariants as groups
use Rattle.css_types.specs.declared.property.Property.{Property}
use Rattle.css_types.specs.declared.property.Property.TheVariants as properties
use Rattle.css_types.specs.declared.reach.SideFamily.TheVariants.{Margin, Padding, BorderWidth, BorderStyle, Inset}
use Rattle.css_types.specs.declared.reach.AxisFamily.TheVariants.{Size, MinSize, MaxSize}
use Rattle.css_types.specs.declared.reach.Axis.TheVariants.{Horizontal, Vertical}
use Rattle.css_types.specs.declared.reach.FlowAxis.TheVariants.{Inline, Block}
use Rattle.css_types.specs.declared.reach.Reach.{Reach}
use Rattle.css_types.specs.declared.reach.Reach.TheVariants.{Whole, PhysicalSide, FlowSide, PhysicalAxis, FlowAxis}
use Rattle.css_types.specs.declared.table.More.{More}
use Rattle.css_types.specs.declared.table.More.TheVariants as more
use Rattle.css_types.specs.declared.table.PropertyRow.{PropertyRow}
use Rattle.css_types.specs.declared.table.Range.{Range}
use Rattle.css_types.specs.declared.table.Range.TheVariants as ranges
use Rattle.css_types.specs.declared.table.TheConstants.{PROPERTIES}
use Rattle.css_types.specs.declared.value.Value.{Value}
use Rattle.css_types.specs.declared.value.Value.TheVariants as values

-- the name; the property; its keywords, lengths, percentages and other values; the initial one; whether it is
-- inherited; what of a box it is about
abbrev row : List ℕ → Property → Keywords → Range → Range → More → Value → Bool → Reach → List ℕ × PropertyRow
row name property keywords lengths percentages others initial inherited reach = (
  name,
  record {
    property = property;
    values = record { keywords = keywords; lengths = lengths; percentages = percentages; more = others };
    initial = initial;
    inherited = inherited;
    reach = reach;
  },
)

abbrev table : List (List ℕ × PropertyRow)
table = map (λ named. (named.0.now, named.1)) PROPERTIES

-- the properties of the whole box
of_the_whole_box : take 11 table ≡
    (row (codes "display") properties.Display groups.Displays ranges.Nowhere ranges.Nowhere more.Nothing (values.Keyword words.Inline) false Whole
    ∷ row (codes "writing-mode") properties.WritingMode groups.Modes ranges.Nowhere ranges.Nowhere more.Nothing (values.Keyword words.HorizontalTb) true Whole
    ∷ row (codes "direction") properties.Direction groups.Directions ranges.Nowhere ranges.Nowhere more.Nothing (values.Keyword words.Ltr) true Whole
    ∷ row (codes "text-orientation") properties.TextOrientation groups.Orientations ranges.Nowhere ranges.Nowhere more.Nothing (values.Keyword words.Mixed) true Whole
    ∷ row (codes "text-combine-upright") properties.TextCombineUpright groups.Combines ranges.Nowhere ranges.Nowhere more.Digits (values.Keyword words.None) true Whole
    ∷ row (codes "unicode-bidi") properties.UnicodeBidi groups.Bidis ranges.Nowhere ranges.Nowhere more.Nothing (values.Keyword words.Normal) false Whole
    ∷ row (codes "font-size") properties.FontSize groups.Nowhere ranges.NotNegative ranges.NotNegative more.Nothing (values.Px (pos 1600)) true Whole
    ∷ row (codes "font-family") properties.FontFamily groups.Nowhere ranges.Nowhere ranges.Nowhere more.Faces (values.Face 0) true Whole
    ∷ row (codes "line-height") properties.LineHeight groups.Normal ranges.NotNegative ranges.NotNegative more.Numbers (values.Keyword words.Normal) true Whole
    ∷ row (codes "text-align") properties.TextAlign groups.Aligns ranges.Nowhere ranges.Nowhere more.Nothing (values.Keyword words.Start) true Whole
    ∷ row (codes "vertical-align") properties.VerticalAlign groups.Baseline ranges.Anywhere ranges.Nowhere more.Nothing (values.Keyword words.Baseline) false Whole
    ∷ [])
of_the_whole_box = refl

-- sizes, minima and maxima
of_sizes : take 12 (drop 11 table) ≡
    (row (codes "width") properties.Width groups.Auto ranges.NotNegative ranges.NotNegative more.Nothing (values.Keyword words.Auto) false (PhysicalAxis Size Horizontal)
    ∷ row (codes "height") properties.Height groups.Auto ranges.NotNegative ranges.NotNegative more.Nothing (values.Keyword words.Auto) false (PhysicalAxis Size Vertical)
    ∷ row (codes "inline-size") properties.InlineSize groups.Auto ranges.NotNegative ranges.NotNegative more.Nothing (values.Keyword words.Auto) false (FlowAxis Size Inline)
    ∷ row (codes "block-size") properties.BlockSize groups.Auto ranges.NotNegative ranges.NotNegative more.Nothing (values.Keyword words.Auto) false (FlowAxis Size Block)
    ∷ row (codes "min-width") properties.MinWidth groups.Auto ranges.NotNegative ranges.NotNegative more.Nothing (values.Keyword words.Auto) false (PhysicalAxis MinSize Horizontal)
    ∷ row (codes "min-height") properties.MinHeight groups.Auto ranges.NotNegative ranges.NotNegative more.Nothing (values.Keyword words.Auto) false (PhysicalAxis MinSize Vertical)
    ∷ row (codes "min-inline-size") properties.MinInlineSize groups.Auto ranges.NotNegative ranges.NotNegative more.Nothing (values.Keyword words.Auto) false (FlowAxis MinSize Inline)
    ∷ row (codes "min-block-size") properties.MinBlockSize groups.Auto ranges.NotNegative ranges.NotNegative more.Nothing (values.Keyword words.Auto) false (FlowAxis MinSize Block)
    ∷ row (codes "max-width") properties.MaxWidth groups.NoLimit ranges.NotNegative ranges.NotNegative more.Nothing (values.Keyword words.None) false (PhysicalAxis MaxSize Horizontal)
    ∷ row (codes "max-height") properties.MaxHeight groups.NoLimit ranges.NotNegative ranges.NotNegative more.Nothing (values.Keyword words.None) false (PhysicalAxis MaxSize Vertical)
    ∷ row (codes "max-inline-size") properties.MaxInlineSize groups.NoLimit ranges.NotNegative ranges.NotNegative more.Nothing (values.Keyword words.None) false (FlowAxis MaxSize Inline)
    ∷ row (codes "max-block-size") properties.MaxBlockSize groups.NoLimit ranges.NotNegative ranges.NotNegative more.Nothing (values.Keyword words.None) false (FlowAxis MaxSize Block)
    ∷ [])
of_sizes = refl

-- margins and paddings
of_margins_and_paddings : take 16 (drop 23 table) ≡
    (row (codes "margin-top") properties.MarginTop groups.Auto ranges.Anywhere ranges.Anywhere more.Nothing (values.Px (pos 0)) false (PhysicalSide Margin Top)
    ∷ row (codes "margin-right") properties.MarginRight groups.Auto ranges.Anywhere ranges.Anywhere more.Nothing (values.Px (pos 0)) false (PhysicalSide Margin Right)
    ∷ row (codes "margin-bottom") properties.MarginBottom groups.Auto ranges.Anywhere ranges.Anywhere more.Nothing (values.Px (pos 0)) false (PhysicalSide Margin Bottom)
    ∷ row (codes "margin-left") properties.MarginLeft groups.Auto ranges.Anywhere ranges.Anywhere more.Nothing (values.Px (pos 0)) false (PhysicalSide Margin Left)
    ∷ row (codes "margin-block-start") properties.MarginBlockStart groups.Auto ranges.Anywhere ranges.Anywhere more.Nothing (values.Px (pos 0)) false (FlowSide Margin BlockStart)
    ∷ row (codes "margin-block-end") properties.MarginBlockEnd groups.Auto ranges.Anywhere ranges.Anywhere more.Nothing (values.Px (pos 0)) false (FlowSide Margin BlockEnd)
    ∷ row (codes "margin-inline-start") properties.MarginInlineStart groups.Auto ranges.Anywhere ranges.Anywhere more.Nothing (values.Px (pos 0)) false (FlowSide Margin InlineStart)
    ∷ row (codes "margin-inline-end") properties.MarginInlineEnd groups.Auto ranges.Anywhere ranges.Anywhere more.Nothing (values.Px (pos 0)) false (FlowSide Margin InlineEnd)
    ∷ row (codes "padding-top") properties.PaddingTop groups.Nowhere ranges.NotNegative ranges.NotNegative more.Nothing (values.Px (pos 0)) false (PhysicalSide Padding Top)
    ∷ row (codes "padding-right") properties.PaddingRight groups.Nowhere ranges.NotNegative ranges.NotNegative more.Nothing (values.Px (pos 0)) false (PhysicalSide Padding Right)
    ∷ row (codes "padding-bottom") properties.PaddingBottom groups.Nowhere ranges.NotNegative ranges.NotNegative more.Nothing (values.Px (pos 0)) false (PhysicalSide Padding Bottom)
    ∷ row (codes "padding-left") properties.PaddingLeft groups.Nowhere ranges.NotNegative ranges.NotNegative more.Nothing (values.Px (pos 0)) false (PhysicalSide Padding Left)
    ∷ row (codes "padding-block-start") properties.PaddingBlockStart groups.Nowhere ranges.NotNegative ranges.NotNegative more.Nothing (values.Px (pos 0)) false (FlowSide Padding BlockStart)
    ∷ row (codes "padding-block-end") properties.PaddingBlockEnd groups.Nowhere ranges.NotNegative ranges.NotNegative more.Nothing (values.Px (pos 0)) false (FlowSide Padding BlockEnd)
    ∷ row (codes "padding-inline-start") properties.PaddingInlineStart groups.Nowhere ranges.NotNegative ranges.NotNegative more.Nothing (values.Px (pos 0)) false (FlowSide Padding InlineStart)
    ∷ row (codes "padding-inline-end") properties.PaddingInlineEnd groups.Nowhere ranges.NotNegative ranges.NotNegative more.Nothing (values.Px (pos 0)) false (FlowSide Padding InlineEnd)
    ∷ [])
of_margins_and_paddings = refl

-- borders
of_borders : take 16 (drop 39 table) ≡
    (row (codes "border-top-width") properties.BorderTopWidth groups.Nowhere ranges.NotNegative ranges.Nowhere more.Widths (values.Px (pos 300)) false (PhysicalSide BorderWidth Top)
    ∷ row (codes "border-right-width") properties.BorderRightWidth groups.Nowhere ranges.NotNegative ranges.Nowhere more.Widths (values.Px (pos 300)) false (PhysicalSide BorderWidth Right)
    ∷ row (codes "border-bottom-width") properties.BorderBottomWidth groups.Nowhere ranges.NotNegative ranges.Nowhere more.Widths (values.Px (pos 300)) false (PhysicalSide BorderWidth Bottom)
    ∷ row (codes "border-left-width") properties.BorderLeftWidth groups.Nowhere ranges.NotNegative ranges.Nowhere more.Widths (values.Px (pos 300)) false (PhysicalSide BorderWidth Left)
    ∷ row (codes "border-block-start-width") properties.BorderBlockStartWidth groups.Nowhere ranges.NotNegative ranges.Nowhere more.Widths (values.Px (pos 300)) false (FlowSide BorderWidth BlockStart)
    ∷ row (codes "border-block-end-width") properties.BorderBlockEndWidth groups.Nowhere ranges.NotNegative ranges.Nowhere more.Widths (values.Px (pos 300)) false (FlowSide BorderWidth BlockEnd)
    ∷ row (codes "border-inline-start-width") properties.BorderInlineStartWidth groups.Nowhere ranges.NotNegative ranges.Nowhere more.Widths (values.Px (pos 300)) false (FlowSide BorderWidth InlineStart)
    ∷ row (codes "border-inline-end-width") properties.BorderInlineEndWidth groups.Nowhere ranges.NotNegative ranges.Nowhere more.Widths (values.Px (pos 300)) false (FlowSide BorderWidth InlineEnd)
    ∷ row (codes "border-top-style") properties.BorderTopStyle groups.Lines ranges.Nowhere ranges.Nowhere more.Nothing (values.Keyword words.None) false (PhysicalSide BorderStyle Top)
    ∷ row (codes "border-right-style") properties.BorderRightStyle groups.Lines ranges.Nowhere ranges.Nowhere more.Nothing (values.Keyword words.None) false (PhysicalSide BorderStyle Right)
    ∷ row (codes "border-bottom-style") properties.BorderBottomStyle groups.Lines ranges.Nowhere ranges.Nowhere more.Nothing (values.Keyword words.None) false (PhysicalSide BorderStyle Bottom)
    ∷ row (codes "border-left-style") properties.BorderLeftStyle groups.Lines ranges.Nowhere ranges.Nowhere more.Nothing (values.Keyword words.None) false (PhysicalSide BorderStyle Left)
    ∷ row (codes "border-block-start-style") properties.BorderBlockStartStyle groups.Lines ranges.Nowhere ranges.Nowhere more.Nothing (values.Keyword words.None) false (FlowSide BorderStyle BlockStart)
    ∷ row (codes "border-block-end-style") properties.BorderBlockEndStyle groups.Lines ranges.Nowhere ranges.Nowhere more.Nothing (values.Keyword words.None) false (FlowSide BorderStyle BlockEnd)
    ∷ row (codes "border-inline-start-style") properties.BorderInlineStartStyle groups.Lines ranges.Nowhere ranges.Nowhere more.Nothing (values.Keyword words.None) false (FlowSide BorderStyle InlineStart)
    ∷ row (codes "border-inline-end-style") properties.BorderInlineEndStyle groups.Lines ranges.Nowhere ranges.Nowhere more.Nothing (values.Keyword words.None) false (FlowSide BorderStyle InlineEnd)
    ∷ [])
of_borders = refl

-- position and insets
of_positions : drop 55 table ≡
    (row (codes "position") properties.Position groups.Positions ranges.Nowhere ranges.Nowhere more.Nothing (values.Keyword words.Static) false Whole
    ∷ row (codes "top") properties.InsetTop groups.Auto ranges.Anywhere ranges.Anywhere more.Nothing (values.Keyword words.Auto) false (PhysicalSide Inset Top)
    ∷ row (codes "right") properties.InsetRight groups.Auto ranges.Anywhere ranges.Anywhere more.Nothing (values.Keyword words.Auto) false (PhysicalSide Inset Right)
    ∷ row (codes "bottom") properties.InsetBottom groups.Auto ranges.Anywhere ranges.Anywhere more.Nothing (values.Keyword words.Auto) false (PhysicalSide Inset Bottom)
    ∷ row (codes "left") properties.InsetLeft groups.Auto ranges.Anywhere ranges.Anywhere more.Nothing (values.Keyword words.Auto) false (PhysicalSide Inset Left)
    ∷ row (codes "inset-block-start") properties.InsetBlockStart groups.Auto ranges.Anywhere ranges.Anywhere more.Nothing (values.Keyword words.Auto) false (FlowSide Inset BlockStart)
    ∷ row (codes "inset-block-end") properties.InsetBlockEnd groups.Auto ranges.Anywhere ranges.Anywhere more.Nothing (values.Keyword words.Auto) false (FlowSide Inset BlockEnd)
    ∷ row (codes "inset-inline-start") properties.InsetInlineStart groups.Auto ranges.Anywhere ranges.Anywhere more.Nothing (values.Keyword words.Auto) false (FlowSide Inset InlineStart)
    ∷ row (codes "inset-inline-end") properties.InsetInlineEnd groups.Auto ranges.Anywhere ranges.Anywhere more.Nothing (values.Keyword words.Auto) false (FlowSide Inset InlineEnd)
    ∷ [])
of_positions = refl
