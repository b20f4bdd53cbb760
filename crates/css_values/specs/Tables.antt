-- The tables of properties by their names.
use Rattle.std.specs.Prelude.{ℕ, ℤ, List, map}
use Rattle.css_types.specs.declared.keyword.Keyword.{Keyword}
use Rattle.css_types.specs.declared.keyword.TheConstants.{WORDS, WIDTH_NAMES}
use Rattle.css_types.specs.declared.refusal.Refused.{Refused}
use Rattle.css_types.specs.declared.refusal.TheConstants.{REFUSALS}
use Rattle.css_types.specs.declared.shorthand.Shorthand.{Shorthand}
use Rattle.css_types.specs.declared.shorthand.TheConstants.{SHORTHANDS}
use Rattle.css_types.specs.declared.table.PropertyRow.{PropertyRow}
use Rattle.css_types.specs.declared.table.TheConstants.{PROPERTIES}
use Rattle.css_values.specs.declared.names.TheConstants.{COLOURS, RESETS}

unfoldable pub properties : List (List ℕ × PropertyRow)
properties = map (λ row. (row.0.now, row.1)) PROPERTIES

unfoldable pub shorthands : List (List ℕ × Shorthand)
shorthands = map (λ row. (row.0.now, row.1)) SHORTHANDS

unfoldable pub keywords : List (List ℕ × Keyword)
keywords = map (λ row. (row.0.now, row.1)) WORDS

unfoldable pub widths : List (List ℕ × ℤ)
widths = map (λ row. (row.0.now, row.1)) WIDTH_NAMES

-- which values of a property are refused
pub record Refusing : Type 0 where
  pub property : List ℕ
  pub which : Refused
  pub names : List (List ℕ)

unfoldable pub refusals : List Refusing
refusals = map (λ row. record { property = row.0.now; which = row.1; names = map (λ name. name.now) row.2.now }) REFUSALS

unfoldable pub colours : List (List ℕ)
colours = map (λ name. name.now) COLOURS

unfoldable pub resets : List (List ℕ)
resets = map (λ name. name.now) RESETS
