-- Shorthands and their longhands. CSS 2, 8.3 and 8.5.4; CSS Logical Properties 1, 4.2.
use Rattle.std.specs.Prelude.{if◌then◌else◌, List, [], ◌∷◌, ◌++◌, map, zip, codes, Option, Some, None}
use Rattle.css_tokens.specs.Tokens.{Lexeme}
use Rattle.css_types.specs.declared.property.Property.{Property}
use Rattle.css_types.specs.declared.shorthand.Longhands.{Longhands}
use Rattle.css_types.specs.declared.shorthand.Longhands.TheVariants.{One, Ends, Sides}
use Rattle.css_types.specs.declared.shorthand.Shorthand.{Shorthand}
use Rattle.css_types.specs.declared.shorthand.Shorthand.TheVariants.{Round, Border}
use Rattle.css_types.specs.declared.table.Values.{Values}
use Rattle.css_types.specs.declared.value.Value.{Value}
use Rattle.css_types.specs.declared.value.Value.TheVariants as values
use Rattle.css_values.specs.declared.border.Found.{Found}
use Rattle.css_values.specs.Border.{or_initial, nothing, pieces}
use Rattle.css_values.specs.Longhand.{is_name, is_word, single}

-- in the order in which they are declared
abbrev pub listed : Longhands → List Property
listed (One one) = one ∷ []
listed (Ends start end_) = start ∷ end_ ∷ []
listed (Sides top right bottom left) = top ∷ right ∷ bottom ∷ left ∷ []

-- each of these longhands has this value
abbrev pub all_have : Value → Longhands → List (Property × Value)
all_have value longhands = map (λ longhand. (longhand, value)) (listed longhands)

-- ---- values for the sides

abbrev pub before_others : Option Value → Option (List Value) → Option (List Value)
before_others (Some value) (Some others) = Some (value ∷ others)
before_others (Some value) None = None
before_others None others = None

-- each token is a value
unfoldable pub each : Values → List Lexeme → Option (List Value)
each v [] = Some []
each v (lexeme ∷ others) = before_others (single v lexeme) (each v others)

-- one to four values for top, right, bottom and left
abbrev pub round_sides : List Value → Option (List Value)
round_sides (all ∷ []) = Some (all ∷ all ∷ all ∷ all ∷ [])
round_sides (block ∷ inline ∷ []) = Some (block ∷ inline ∷ block ∷ inline ∷ [])
round_sides (top ∷ inline ∷ bottom ∷ []) = Some (top ∷ inline ∷ bottom ∷ inline ∷ [])
round_sides (top ∷ right ∷ bottom ∷ left ∷ []) = Some (top ∷ right ∷ bottom ∷ left ∷ [])
round_sides others = None

-- one or two values for start and end
abbrev pub at_ends : List Value → Option (List Value)
at_ends (both ∷ []) = Some (both ∷ both ∷ [])
at_ends (start ∷ end_ ∷ []) = Some (start ∷ end_ ∷ [])
at_ends others = None

abbrev pub alone : List Value → Option (List Value)
alone (value ∷ []) = Some (value ∷ [])
alone others = None

abbrev pub each_then : (List Value → Option (List Value)) → Option (List Value) → Option (List Value)
each_then form (Some given) = form given
each_then form None = None

abbrev pub spread : Longhands → Option (List Value) → Option (List Value)
spread (One one) given = each_then alone given
spread (Ends start end_) given = each_then at_ends given
spread (Sides top right bottom left) given = each_then round_sides given

abbrev pub given_to : Longhands → Option (List Value) → List (Property × Value)
given_to longhands (Some given) = zip (listed longhands) given
given_to longhands None = []

-- ---- values for borders

abbrev pub borders : (widths styles : Longhands) → Option Found → List (Property × Value)
borders widths styles (Some g) = all_have (or_initial g.width) widths ++ all_have (or_initial g.style) styles
borders widths styles None = []

-- ---- the whole value

abbrev pub initial_of : Shorthand → List (Property × Value)
initial_of (Round v longhands) = all_have values.Initial longhands
initial_of (Border widths styles) = all_have values.Initial widths ++ all_have values.Initial styles

abbrev pub given_by : Shorthand → List Lexeme → List (Property × Value)
given_by (Round v longhands) lexemes = given_to longhands (spread longhands (each v lexemes))
given_by (Border widths styles) lexemes = borders widths styles (pieces lexemes nothing)

-- the longhands that a shorthand declares; none where the value isn't one of it
unfoldable pub shorthand : Shorthand → List Lexeme → List (Property × Value)
shorthand s lexemes = if is_name (is_word (codes "initial")) lexemes then initial_of s else given_by s lexemes
