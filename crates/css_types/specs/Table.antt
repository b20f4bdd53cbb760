-- What the table of properties says of a property.
use Rattle.std.specs.Prelude.{◌≡◌, ℕ, List, Option, Some, map, slice_get}
use Rattle.css_types.specs.declared.property.Property.{Property}
use Rattle.css_types.specs.declared.value.Value.{Value}
use Rattle.css_types.specs.declared.table.PropertyRow.{PropertyRow}
use Rattle.css_types.specs.declared.table.TheConstants.{PROPERTIES}
use Rattle.css_types.specs.Property.{place_of}

-- the rows without the names
abbrev pub rows : List PropertyRow
rows = map (λ named. named.1) PROPERTIES

-- the row of a property
abbrev pub IsRowOf : Property → PropertyRow → Type 0
IsRowOf property row = (place : ℕ) × (slice_get rows place ≡ Some row) × (row.property ≡ property)

-- and as the code finds it: the rows stand in the order of the properties
abbrev pub row_of : Property → Option PropertyRow
row_of property = slice_get rows (place_of property)

-- the initial value of a property
abbrev pub HasInitial : Property → Value → Type 0
HasInitial property value = (row : PropertyRow) × IsRowOf property row × (row.initial ≡ value)
