-- The shorthands: what each takes, and its longhands in order. docs/PROFILE/properties.md has the same.
use Rattle.std.specs.Prelude.{◌≡◌, ℕ, List, [], ◌∷◌, map, codes}
use Rattle.std.proofs.Common.{refl}
use Rattle.css_types.specs.declared.keyword.Keywords.TheVariants as groups
use Rattle.css_types.specs.declared.property.Property.{Property}
use Rattle.css_types.specs.declared.property.Property.TheVariants as properties
use Rattle.css_types.specs.declared.shorthand.Longhands.{Longhands}
use Rattle.css_types.specs.declared.shorthand.Longhands.TheVariants as longhands
use Rattle.css_types.specs.declared.shorthand.Shorthand.{Shorthand}
use Rattle.css_types.specs.declared.shorthand.Shorthand.TheVariants as shorthands
use Rattle.css_types.specs.declared.shorthand.TheConstants.{SHORTHANDS}
use Rattle.css_types.specs.declared.table.More.TheVariants as more
use Rattle.css_types.specs.declared.table.Range.TheVariants as ranges
use Rattle.css_types.specs.declared.table.Values.{Values}

abbrev of_margins : Values
of_margins = record { keywords = groups.Auto; lengths = ranges.Anywhere; percentages = ranges.Anywhere; more = more.Nothing }

abbrev of_insets : Values
of_insets = record { keywords = groups.Auto; lengths = ranges.Anywhere; percentages = ranges.Anywhere; more = more.Nothing }

abbrev of_paddings : Values
of_paddings = record { keywords = groups.Nowhere; lengths = ranges.NotNegative; percentages = ranges.NotNegative; more = more.Nothing }

abbrev of_widths : Values
of_widths = record { keywords = groups.Nowhere; lengths = ranges.NotNegative; percentages = ranges.Nowhere; more = more.Widths }

abbrev of_styles : Values
of_styles = record { keywords = groups.Lines; lengths = ranges.Nowhere; percentages = ranges.Nowhere; more = more.Nothing }

abbrev sides : (top right bottom left : Property) → Longhands
sides top right bottom left = longhands.Sides top right bottom left

abbrev ends : (start finish : Property) → Longhands
ends start finish = longhands.Ends start finish

abbrev round : List ℕ → Values → Longhands → List ℕ × Shorthand
round name values of = (name, shorthands.Round values of)

abbrev border : List ℕ → (widths styles : Longhands) → List ℕ × Shorthand
border name widths styles = (name, shorthands.Border widths styles)

all : map (λ row. (row.0.now, row.1)) SHORTHANDS ≡
    (round (codes "margin") of_margins (sides properties.MarginTop properties.MarginRight properties.MarginBottom properties.MarginLeft)
    ∷ round (codes "padding") of_paddings (sides properties.PaddingTop properties.PaddingRight properties.PaddingBottom properties.PaddingLeft)
    ∷ round (codes "border-width") of_widths (sides properties.BorderTopWidth properties.BorderRightWidth properties.BorderBottomWidth properties.BorderLeftWidth)
    ∷ round (codes "border-style") of_styles (sides properties.BorderTopStyle properties.BorderRightStyle properties.BorderBottomStyle properties.BorderLeftStyle)
    ∷ round (codes "margin-block") of_margins (ends properties.MarginBlockStart properties.MarginBlockEnd)
    ∷ round (codes "margin-inline") of_margins (ends properties.MarginInlineStart properties.MarginInlineEnd)
    ∷ round (codes "padding-block") of_paddings (ends properties.PaddingBlockStart properties.PaddingBlockEnd)
    ∷ round (codes "padding-inline") of_paddings (ends properties.PaddingInlineStart properties.PaddingInlineEnd)
    ∷ round (codes "border-block-width") of_widths (ends properties.BorderBlockStartWidth properties.BorderBlockEndWidth)
    ∷ round (codes "border-inline-width") of_widths (ends properties.BorderInlineStartWidth properties.BorderInlineEndWidth)
    ∷ round (codes "border-block-style") of_styles (ends properties.BorderBlockStartStyle properties.BorderBlockEndStyle)
    ∷ round (codes "border-inline-style") of_styles (ends properties.BorderInlineStartStyle properties.BorderInlineEndStyle)
    ∷ border (codes "border") (sides properties.BorderTopWidth properties.BorderRightWidth properties.BorderBottomWidth properties.BorderLeftWidth) (sides properties.BorderTopStyle properties.BorderRightStyle properties.BorderBottomStyle properties.BorderLeftStyle)
    ∷ border (codes "border-top") (longhands.One properties.BorderTopWidth) (longhands.One properties.BorderTopStyle)
    ∷ border (codes "border-right") (longhands.One properties.BorderRightWidth) (longhands.One properties.BorderRightStyle)
    ∷ border (codes "border-bottom") (longhands.One properties.BorderBottomWidth) (longhands.One properties.BorderBottomStyle)
    ∷ border (codes "border-left") (longhands.One properties.BorderLeftWidth) (longhands.One properties.BorderLeftStyle)
    ∷ border (codes "border-block-start") (longhands.One properties.BorderBlockStartWidth) (longhands.One properties.BorderBlockStartStyle)
    ∷ border (codes "border-block-end") (longhands.One properties.BorderBlockEndWidth) (longhands.One properties.BorderBlockEndStyle)
    ∷ border (codes "border-inline-start") (longhands.One properties.BorderInlineStartWidth) (longhands.One properties.BorderInlineStartStyle)
    ∷ border (codes "border-inline-end") (longhands.One properties.BorderInlineEndWidth) (longhands.One properties.BorderInlineEndStyle)
    ∷ border (codes "border-block") (ends properties.BorderBlockStartWidth properties.BorderBlockEndWidth) (ends properties.BorderBlockStartStyle properties.BorderBlockEndStyle)
    ∷ border (codes "border-inline") (ends properties.BorderInlineStartWidth properties.BorderInlineEndWidth) (ends properties.BorderInlineStartStyle properties.BorderInlineEndStyle)
    ∷ round (codes "inset") of_insets (sides properties.InsetTop properties.InsetRight properties.InsetBottom properties.InsetLeft)
    ∷ round (codes "inset-block") of_insets (ends properties.InsetBlockStart properties.InsetBlockEnd)
    ∷ round (codes "inset-inline") of_insets (ends properties.InsetInlineStart properties.InsetInlineEnd)
    ∷ [])
all = refl
