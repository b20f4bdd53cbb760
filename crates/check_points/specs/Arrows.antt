-- Where a caret goes in a text, by the cells of the text: it can stand before each of them and behind it.
use Rattle.std.specs.Prelude.{ℕ, min, max, nat_eq, nat_lt, Option, Some, None, if◌then◌else◌}
use Rattle.hit_caret.specs.declared.cells.Cell.{Cell}
use Rattle.check_points.specs.declared.arrows.Steps.{Steps}

abbrev pub least_of : Option ℕ → ℕ → ℕ
least_of None place = place
least_of (Some least) place = min least place

abbrev pub greatest_of : Option ℕ → ℕ → ℕ
greatest_of None place = place
greatest_of (Some greatest) place = max greatest place

-- the nearest place behind the caret's, and the nearest one before it, with one place more
abbrev pub with_place : Steps → (place : ℕ) → Steps
with_place steps place = record steps {
  ahead = if nat_lt steps.place place then Some (least_of steps.ahead place) else steps.ahead;
  back = if nat_lt place steps.place then Some (greatest_of steps.back place) else steps.back;
}

-- with both places of a cell, where it is of that text
abbrev pub seen : Steps → Cell → Steps
seen steps cell = if nat_eq cell.node steps.node then with_place (with_place steps cell.first) cell.end else steps
