-- The values of border shorthands: a width, a style and a colour, each at most once, in any order. CSS 2, 8.5.4.
use Rattle.std.specs.Prelude.{true, false, if◌then◌else◌, List, [], ◌∷◌, Option, Some, None, is_some}
use Rattle.css_tokens.specs.Tokens as tokens
use Rattle.css_tokens.specs.Tokens.{Lexeme}
use Rattle.css_types.specs.declared.table.TheConstants.{WIDTHS, LINES}
use Rattle.css_types.specs.declared.value.Value.{Value}
use Rattle.css_types.specs.declared.value.Value.TheVariants as values
use Rattle.css_values.specs.declared.border.Found.{Found}
use Rattle.css_values.specs.Longhand.{is_one_of, single}
use Rattle.css_values.specs.Tables.{colours}

abbrev pub nothing : Found
nothing = record { width = None; style = None; colour = false }

-- each at most once
abbrev pub with_width : Value → Found → Option Found
with_width value g = if is_some g.width then None else Some (record { width = Some value; style = g.style; colour = g.colour })

abbrev pub with_style : Value → Found → Option Found
with_style value g = if is_some g.style then None else Some (record { width = g.width; style = Some value; colour = g.colour })

abbrev pub with_colour : Found → Option Found
with_colour g = if g.colour then None else Some (record { width = g.width; style = g.style; colour = true })

-- a name is a style, else a width, else a colour
abbrev pub by_name : (style width : Option Value) → Found → Option Found
by_name (Some value) width g = with_style value g
by_name None (Some value) g = with_width value g
by_name None None g = with_colour g

abbrev pub with_length : Option Value → Found → Option Found
with_length (Some value) g = with_width value g
with_length None g = None

abbrev pub with_piece : Lexeme → Found → Option Found
with_piece (tokens.name n) g = by_name (single LINES (tokens.name n)) (single WIDTHS (tokens.name n)) g
with_piece (tokens.number n) g = with_length (single WIDTHS (tokens.number n)) g
with_piece (tokens.dimension n unit) g = with_length (single WIDTHS (tokens.dimension n unit)) g
with_piece (tokens.hash word) g = with_colour g
with_piece (tokens.function n) g = if is_one_of colours n then with_colour g else None
with_piece other g = None

abbrev pub and_then : Option Found → (Found → Option Found) → Option Found
and_then (Some g) others = others g
and_then None others = None

unfoldable pub pieces : List Lexeme → Found → Option Found
pieces [] g = Some g
pieces (lexeme ∷ others) g = and_then (with_piece lexeme g) (pieces others)

-- what isn't given is initial
abbrev pub or_initial : Option Value → Value
or_initial (Some value) = value
or_initial None = values.Initial
