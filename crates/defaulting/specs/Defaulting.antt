-- What a property's value comes to before other values are looked at. CSS Cascading 4, 7.
use Rattle.std.specs.Prelude.{Bool, true, false, Option, Some, None}
use Rattle.wm_modes.specs.declared.mode.WritingMode.{WritingMode}
use Rattle.wm_modes.specs.declared.mode.Direction.{Direction}
use Rattle.css_types.specs.declared.property.Property.{Property}
use Rattle.css_types.specs.declared.property.Property.TheVariants as properties
use Rattle.style_types.specs.declared.style.TextOrientation.{TextOrientation}
use Rattle.css_types.specs.declared.table.PropertyRow.{PropertyRow}
use Rattle.css_types.specs.declared.value.Value.{Value}
use Rattle.css_types.specs.declared.value.Value.TheVariants.{Initial, Inherit}
use Rattle.style_types.specs.Initial.{initial}
use Rattle.defaulting.specs.SimpleValues.{mode_of, direction_of, orientation_of}
use Rattle.css_types.specs.Table.{row_of}

-- without a winner: the initial value, or none, which stands for the parent's, where the property is inherited
abbrev pub defaulted : (inherited : Bool) → (initial_value : Value) → Option Value
defaulted true initial_value = None
defaulted false initial_value = Some initial_value

-- by the property's row
abbrev pub specified_by : Option PropertyRow → (winner : Option Value) → Option Value
specified_by None winner = winner
specified_by (Some row) None = defaulted row.inherited row.initial
specified_by (Some row) (Some Inherit) = defaulted row.inherited row.initial
specified_by (Some row) (Some Initial) = Some row.initial
specified_by (Some row) (Some value) = Some value

-- the specified value, from the one that won for the property, if one did; none is the parent's
abbrev pub specified : Property → (winner : Option Value) → Option Value
specified property winner = specified_by (row_of property) winner

-- what was read from a value, or else the initial value
abbrev pub or_initial : {T : Type 0} → Option T → T → T
or_initial None by_default = by_default
or_initial (Some read) by_default = read

-- the computed value, from the parent's and the specified one; what isn't a value of the property counts as initial
abbrev pub computed : {T : Type 0} → (Value → Option T) → (by_default parent : T) → Option Value → T
computed read by_default parent None = parent
computed read by_default parent (Some value) = or_initial (read value) by_default

-- ---- what says how a box turns. CSS Writing Modes 4, 2.1, 3.2 and 5.1

abbrev pub computed_mode : (parent : WritingMode) → (winner : Option Value) → WritingMode
computed_mode parent winner = computed mode_of initial.mode parent (specified properties.WritingMode winner)

abbrev pub computed_direction : (parent : Direction) → (winner : Option Value) → Direction
computed_direction parent winner = computed direction_of initial.direction parent (specified properties.Direction winner)

abbrev pub computed_orientation : (parent : TextOrientation) → (winner : Option Value) → TextOrientation
computed_orientation parent winner = computed orientation_of initial.orientation parent (specified properties.TextOrientation winner)
