-- The origins of a sheet's declarations.
use Rattle.std.specs.Prelude.{Bool}
use Rattle.cascade.specs.declared.claim.Origin.{Origin}
use Rattle.cascade.specs.declared.claims.Sheet as code_sheet
use Rattle.cascade.specs.declared.claims.Sheet.TheVariants as sheets
use Rattle.cascade.specs.Claims.{author, by_default}

abbrev pub origin_in : code_sheet.Sheet → Bool → Origin
origin_in sheets.Default = by_default
origin_in sheets.Author = author
