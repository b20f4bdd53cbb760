-- What becomes of a declaration once it is wholly read: it is refused, or it declares longhands; one that declares none is dropped.
use Rattle.std.specs.Prelude.{ℕ, Bool, false, ◌&&◌, ◌||◌, not, List, [], ◌∷◌, map, codes, Option, Some, None}
use Rattle.std.specs.List.{list_any}
use Rattle.reading.specs.Readers.{can_read, starts, strip_either_case}
use Rattle.reading.specs.Names.{lowered, named}
use Rattle.css_tokens.specs.Tokens as tokens
use Rattle.css_tokens.specs.Tokens.{Lexeme}
use Rattle.css_types.specs.declared.property.Property.{Property}
use Rattle.css_types.specs.declared.refusal.Refused.{Refused}
use Rattle.css_types.specs.declared.refusal.Refused.TheVariants as kinds
use Rattle.css_types.specs.declared.table.PropertyRow.{PropertyRow}
use Rattle.css_types.specs.declared.value.Value.{Value}
use Rattle.css_types.specs.declared.value.Declaration.{Declaration}
use Rattle.css_types.specs.declared.shorthand.Shorthand.{Shorthand}
use Rattle.css_values.specs.declared.judging.Manner.{Manner}
use Rattle.css_values.specs.declared.judging.Meaning.{Meaning}
use Rattle.css_values.specs.declared.judging.Meaning.TheVariants as meanings
use Rattle.css_values.specs.Longhand.{is_name, is_one_of, is_word, longhand}
use Rattle.css_values.specs.Shorthand.{shorthand}
use Rattle.css_values.specs.Tables.{Refusing, properties, shorthands, refusals, resets}

-- what a name stands for, in either case
abbrev pub shorthand_or_unknown : Option Shorthand → Meaning
shorthand_or_unknown (Some s) = meanings.Shorthand s
shorthand_or_unknown None = meanings.Unknown

abbrev pub property_or : Option PropertyRow → Meaning → Meaning
property_or (Some row) other = meanings.Property row
property_or None other = other

unfoldable pub meaning : (name : List ℕ) → Meaning
meaning name = property_or (named properties (lowered name)) (shorthand_or_unknown (named shorthands (lowered name)))

-- ---- refused

-- the name begins so, in either case
abbrev pub begins_so : List (List ℕ) → (name : List ℕ) → Bool
begins_so fronts name = list_any (λ front. can_read (strip_either_case front) name) fronts

-- the first token is a name or a function whose name begins so
abbrev pub begins_with : List (List ℕ) → List Lexeme → Bool
begins_with fronts (tokens.name n ∷ others) = begins_so fronts n
begins_with fronts (tokens.function n ∷ others) = begins_so fronts n
begins_with fronts lexemes = false

abbrev pub refuses : Refused → (names : List (List ℕ)) → List Lexeme → Bool
refuses kinds.Names names lexemes = is_name (is_one_of names) lexemes
refuses kinds.AllBut names lexemes = not (is_name (is_one_of names) lexemes)
refuses kinds.Beginning names lexemes = begins_with names lexemes

abbrev pub are_refused : List Refusing → (name : List ℕ) → List Lexeme → Bool
are_refused rows name lexemes = list_any (λ row. is_word row.property name && refuses row.which row.names lexemes) rows

unfoldable pub is_refused : (name : List ℕ) → List Lexeme → Bool
is_refused name lexemes = are_refused refusals name lexemes

-- a property that isn't inherited doesn't inherit, and no shorthand does; no value takes a declaration back
abbrev pub inherits : Meaning → Bool
inherits (meanings.Property row) = row.inherited
inherits other = false

abbrev pub resets_or_inherits : Meaning → List Lexeme → Bool
resets_or_inherits meanings.Unknown lexemes = false
resets_or_inherits known lexemes = is_name (is_one_of resets) lexemes || (not (inherits known) && is_name (is_word (codes "inherit")) lexemes)

-- custom properties, variables and `all` are refused too
unfoldable pub is_unsupported : (name : List ℕ) → (has_var : Bool) → List Lexeme → Bool
is_unsupported name has_var lexemes =
    starts (codes "--") name || has_var || is_word (codes "all") name || resets_or_inherits (meaning name) lexemes || is_refused name lexemes

-- ---- kept

abbrev pub if_value : Property → Option Value → List (Property × Value)
if_value which (Some value) = (which, value) ∷ []
if_value which None = []

-- the longhands that a declaration declares, in order, with their values
abbrev pub declared_by : Meaning → List Lexeme → List (Property × Value)
declared_by (meanings.Property row) lexemes = if_value row.property (longhand row lexemes)
declared_by (meanings.Shorthand s) lexemes = shorthand s lexemes
declared_by meanings.Unknown lexemes = []

-- as declarations: `manner` says whether they are important, and where the name stands
abbrev pub placed : Manner → List (Property × Value) → List Declaration
placed manner longhands = map (λ longhand. record { property = longhand.0; value = longhand.1; important = manner.important; place = manner.place }) longhands

unfoldable pub expanded : (name : List ℕ) → List Lexeme → List (Property × Value)
expanded name lexemes = declared_by (meaning name) lexemes
