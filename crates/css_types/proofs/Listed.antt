-- The rows of the table: where each property has its row, and that it has no other.
use Rattle.std.specs.Prelude.{◌≡◌, ℕ, ◌+◌, List, [], ◌∷◌, map, Some, slice_get}
use Rattle.std.proofs.Common.{zero, suc, get_or, drop, refl, sym, ap, ◌∙◌, arith}
use Rattle.std.proofs.lemmas.Option.{none-some, same_Some}
use Rattle.css_types.specs.declared.property.Property.{Property}
use Rattle.css_types.specs.declared.property.Property.TheVariants as properties
use Rattle.css_types.specs.declared.table.PropertyRow.{PropertyRow}
use Rattle.css_types.specs.Laws.{AllListed, OnlyRows}
use Rattle.css_types.specs.Table.{rows, IsRowOf}
use Rattle.css_types.specs.Property.{place_of}

-- its row stands at its place
stands : (property : Property) → (row : PropertyRow) × (slice_get rows (place_of property) ≡ Some row) × (row.property ≡ property)
stands properties.Display = (_, refl, refl)
stands properties.WritingMode = (_, refl, refl)
stands properties.Direction = (_, refl, refl)
stands properties.TextOrientation = (_, refl, refl)
stands properties.TextCombineUpright = (_, refl, refl)
stands properties.UnicodeBidi = (_, refl, refl)
stands properties.FontSize = (_, refl, refl)
stands properties.FontFamily = (_, refl, refl)
stands properties.LineHeight = (_, refl, refl)
stands properties.TextAlign = (_, refl, refl)
stands properties.VerticalAlign = (_, refl, refl)
stands properties.Width = (_, refl, refl)
stands properties.Height = (_, refl, refl)
stands properties.InlineSize = (_, refl, refl)
stands properties.BlockSize = (_, refl, refl)
stands properties.MinWidth = (_, refl, refl)
stands properties.MinHeight = (_, refl, refl)
stands properties.MinInlineSize = (_, refl, refl)
stands properties.MinBlockSize = (_, refl, refl)
stands properties.MaxWidth = (_, refl, refl)
stands properties.MaxHeight = (_, refl, refl)
stands properties.MaxInlineSize = (_, refl, refl)
stands properties.MaxBlockSize = (_, refl, refl)
stands properties.MarginTop = (_, refl, refl)
stands properties.MarginRight = (_, refl, refl)
stands properties.MarginBottom = (_, refl, refl)
stands properties.MarginLeft = (_, refl, refl)
stands properties.MarginBlockStart = (_, refl, refl)
stands properties.MarginBlockEnd = (_, refl, refl)
stands properties.MarginInlineStart = (_, refl, refl)
stands properties.MarginInlineEnd = (_, refl, refl)
stands properties.PaddingTop = (_, refl, refl)
stands properties.PaddingRight = (_, refl, refl)
stands properties.PaddingBottom = (_, refl, refl)
stands properties.PaddingLeft = (_, refl, refl)
stands properties.PaddingBlockStart = (_, refl, refl)
stands properties.PaddingBlockEnd = (_, refl, refl)
stands properties.PaddingInlineStart = (_, refl, refl)
stands properties.PaddingInlineEnd = (_, refl, refl)
stands properties.BorderTopWidth = (_, refl, refl)
stands properties.BorderRightWidth = (_, refl, refl)
stands properties.BorderBottomWidth = (_, refl, refl)
stands properties.BorderLeftWidth = (_, refl, refl)
stands properties.BorderBlockStartWidth = (_, refl, refl)
stands properties.BorderBlockEndWidth = (_, refl, refl)
stands properties.BorderInlineStartWidth = (_, refl, refl)
stands properties.BorderInlineEndWidth = (_, refl, refl)
stands properties.BorderTopStyle = (_, refl, refl)
stands properties.BorderRightStyle = (_, refl, refl)
stands properties.BorderBottomStyle = (_, refl, refl)
stands properties.BorderLeftStyle = (_, refl, refl)
stands properties.BorderBlockStartStyle = (_, refl, refl)
stands properties.BorderBlockEndStyle = (_, refl, refl)
stands properties.BorderInlineStartStyle = (_, refl, refl)
stands properties.BorderInlineEndStyle = (_, refl, refl)
stands properties.Position = (_, refl, refl)
stands properties.InsetTop = (_, refl, refl)
stands properties.InsetRight = (_, refl, refl)
stands properties.InsetBottom = (_, refl, refl)
stands properties.InsetLeft = (_, refl, refl)
stands properties.InsetBlockStart = (_, refl, refl)
stands properties.InsetBlockEnd = (_, refl, refl)
stands properties.InsetInlineStart = (_, refl, refl)
stands properties.InsetInlineEnd = (_, refl, refl)

pub all_listed : AllListed
all_listed property = let row = stands property in (row.0, (place_of property, row.1, row.2))

-- what stands at its place is its row
pub is_row : (property : Property) (place : ℕ) (row : PropertyRow) → place ≡ place_of property → slice_get rows place ≡ Some row → IsRowOf property row
is_row property place row at is =
    let due = stands property in
    let same = same_Some due.0 row (sym due.1 ∙ (ap (slice_get rows) (sym at) ∙ is)) in
    (place, is, ap (λ r. r.property) (sym same) ∙ due.2)

numbers : ℕ → List PropertyRow → List ℕ
numbers first [] = []
numbers first (row ∷ others) = first ∷ numbers (first + 1) others

numbered : map (λ row. place_of row.property) rows ≡ numbers 0 rows
unfolding numbers
numbered = refl

-- where the rows are numbered so, each has the number of its place
place_is : (first : ℕ) (others : List PropertyRow) (place : ℕ) (row : PropertyRow)
    → map (λ r. place_of r.property) others ≡ numbers first others → slice_get others place ≡ Some row → place_of row.property ≡ first + place
unfolding numbers
place_is first [] place row all is = absurd (none-some _ is)
place_is first (x ∷ others) zero row all is =
    let same : x ≡ row = same_Some _ _ is in
    let number : place_of x.property ≡ first = ap (λ numbers. get_or numbers 0 0) all in
    ap (λ r. place_of r.property) (sym same) ∙ (number ∙ omega arith)
place_is first (x ∷ others) (suc place) row all is =
    let number = place_is (first + 1) others place row (ap (drop 1) all) is in
    omega (arith, number)

pub only_rows : OnlyRows
only_rows property a b (i, at_i, of_a) (j, at_j, of_b) =
    let number_a : place_of property ≡ i = ap place_of (sym of_a) ∙ (place_is 0 rows i a numbered at_i ∙ omega arith) in
    let number_b : place_of property ≡ j = ap place_of (sym of_b) ∙ (place_is 0 rows j b numbered at_j ∙ omega arith) in
    same_Some _ _ (sym at_i ∙ (ap (slice_get rows) (sym number_a ∙ number_b) ∙ at_j))
