-- Some values of properties, and some that are none.
use Rattle.std.specs.Prelude.{codes, negsuc}
use Rattle.std.proofs.Common.{refl, inl, arith}
use Rattle.std.proofs.lemmas.Int.{ints}
use Rattle.css_types.specs.declared.keyword.Keyword.TheVariants as words
use Rattle.css_types.specs.declared.property.Property.TheVariants as properties
use Rattle.css_types.specs.declared.table.Range.TheVariants as ranges
use Rattle.css_types.specs.declared.value.Value.TheVariants as values
use Rattle.css_types.specs.Value.{IsIn, IsValueOf}

a_width_of_auto : IsValueOf properties.Width (values.Keyword words.Auto)
a_width_of_auto = (_, (11, refl, refl), (codes "auto", (0, omega arith, refl), (28, omega arith, refl)))

a_margin_below_zero : IsValueOf properties.MarginTop (values.Px (negsuc 0))
a_margin_below_zero = (_, (23, refl, refl), inl tt)

a_direction_that_is_inherited : IsValueOf properties.Direction values.Inherit
a_direction_that_is_inherited = (_, (2, refl, refl), refl)

a_face : IsValueOf properties.FontFamily (values.Face 7)
a_face = (_, (7, refl, refl), omega arith)

no_number_below_zero : IsIn ranges.NotNegative (negsuc 0) → ⊥
no_number_below_zero low = omega (arith, ints)
