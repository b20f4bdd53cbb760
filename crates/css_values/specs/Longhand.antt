-- The values of longhands. CSS 2, 4.3 and the sections that the table of properties names.
use Rattle.std.specs.Prelude.{ℕ, ◌-◌, nat_le, Bool, true, false, ◌&&◌, ◌==◌, if◌then◌else◌, ℤ, pos, int_le, List, [], ◌∷◌, codes, bytes_eq, Option, Some, None, option_map, Ok, Err, ⊤}
use Rattle.std.specs.List.{list_any}
use Rattle.reading.specs.Readers.{Read, strip_either_case}
use Rattle.reading.specs.Names.{lowered, named}
use Rattle.css_tokens.specs.Tokens as tokens
use Rattle.css_tokens.specs.Tokens.{Lexeme}
use Rattle.css_types.specs.Keywords.{words_of}
use Rattle.css_types.specs.declared.keyword.Keywords.{Keywords}
use Rattle.css_types.specs.declared.table.PropertyRow.{PropertyRow}
use Rattle.css_types.specs.declared.table.Values.{Values}
use Rattle.css_types.specs.declared.table.Range.{Range}
use Rattle.css_types.specs.declared.table.Range.TheVariants as ranges
use Rattle.css_types.specs.declared.table.More.{More}
use Rattle.css_types.specs.declared.table.More.TheVariants as more
use Rattle.css_types.specs.declared.value.Value.{Value}
use Rattle.css_types.specs.declared.value.Value.TheVariants as values
use Rattle.css_values.specs.Tables.{keywords, widths}

-- is the name the word, in either case?
abbrev pub is_word : (word name : List ℕ) → Bool
is_word word name = bytes_eq (lowered word) (lowered name)

-- one of these words
abbrev pub is_one_of : List (List ℕ) → (name : List ℕ) → Bool
is_one_of words name = list_any (λ word. is_word word name) words

-- the whole value is one name, of which this holds
abbrev pub is_name : (List ℕ → Bool) → List Lexeme → Bool
is_name test (tokens.name n ∷ []) = test n
is_name test lexemes = false

abbrev pub in_range : Range → ℤ → Bool
in_range ranges.Nowhere n = false
in_range ranges.NotNegative n = int_le (pos 0) n
in_range ranges.Anywhere n = true

abbrev pub is_zero : ℤ → Bool
is_zero (pos n) = n == 0
is_zero n = false

abbrev pub or_else : Option Value → Option Value → Option Value
or_else (Some value) other = Some value
or_else None other = other

-- a keyword of these
abbrev pub keyword_of : Keywords → (name : List ℕ) → Option Value
keyword_of group name = if is_one_of (words_of group) name then option_map (λ keyword. values.Keyword keyword) (named keywords (lowered name)) else None

abbrev pub width_named : More → (name : List ℕ) → Option Value
width_named more.Widths name = option_map (λ hundredths. values.Px hundredths) (named widths (lowered name))
width_named other name = None

-- a number: 0 is a length too
abbrev pub number_value : More → Range → ℤ → Option Value
number_value more.Numbers lengths n = if int_le (pos 0) n then Some (values.Number n) else None
number_value other lengths n = if is_zero n && in_range lengths n then Some (values.Px (pos 0)) else None

abbrev pub length_in : (unit : List ℕ) → ℤ → Option Value
length_in unit n = if is_word (codes "px") unit then Some (values.Px n) else if is_word (codes "em") unit then Some (values.Em n) else None

-- a value of one token
unfoldable pub single : Values → Lexeme → Option Value
single v (tokens.name n) = or_else (keyword_of v.keywords n) (width_named v.more n)
single v (tokens.number n) = number_value v.more v.lengths n
single v (tokens.dimension n unit) = if in_range v.lengths n then length_in unit n else None
single v (tokens.percentage n) = if in_range v.percentages n then Some (values.Percent n) else None
single v other = None

-- ---- faces

-- the digit of `face0` to `face7`
abbrev pub face_digit : List ℕ → Option ℕ
face_digit (digit ∷ []) = if nat_le 48 digit && nat_le digit 55 then Some (digit - 48) else None
face_digit text = None

abbrev pub digit_behind : Read ⊤ → Option ℕ
digit_behind (Ok there) = face_digit there.1
digit_behind (Err left) = None

unfoldable pub face_number : (name : List ℕ) → Option ℕ
face_number name = digit_behind (strip_either_case (codes "face") name)

-- an entry of a list of faces: a name or a string
abbrev pub entry : Lexeme → Option (List ℕ)
entry (tokens.name n) = Some n
entry (tokens.quoted inside) = Some inside
entry lexeme = None

abbrev pub before_others : Option (List ℕ) → Option (List (List ℕ)) → Option (List (List ℕ))
before_others (Some text) (Some texts) = Some (text ∷ texts)
before_others (Some text) None = None
before_others None others = None

-- entries with commas between them
unfoldable pub entries : List Lexeme → Option (List (List ℕ))
entries [] = None
entries (lexeme ∷ []) = before_others (entry lexeme) (Some [])
entries (lexeme ∷ tokens.sign byte ∷ others) = if byte == 44 then before_others (entry lexeme) (entries others) else None
entries (lexeme ∷ other ∷ others) = None

abbrev pub number_or : Option ℕ → ℕ → ℕ
number_or (Some number) other = number
number_or None other = other

-- the first one that the profile has, else face 0
unfoldable pub first_face : List (List ℕ) → ℕ
first_face [] = 0
first_face (text ∷ texts) = number_or (face_number text) (first_face texts)

unfoldable pub family : List Lexeme → Option Value
family lexemes = option_map (λ texts. values.Face (first_face texts)) (entries lexemes)

-- ---- digits (CSS Writing Modes 4, 9.1)

-- the greatest count of digits that are combined, in hundredths: 2, 3 or 4
abbrev pub most_digits : (hundredths : ℤ) → Option Value
most_digits (pos n) = if n == 200 then Some (values.Digits 2) else if n == 300 then Some (values.Digits 3) else if n == 400 then Some (values.Digits 4) else None
most_digits n = None

-- `digits`, alone for two or with a number behind it
abbrev pub digits : List Lexeme → Option Value
digits (tokens.name n ∷ []) = if is_word (codes "digits") n then Some (values.Digits 2) else None
digits (tokens.name n ∷ tokens.number count ∷ []) = if is_word (codes "digits") n then most_digits count else None
digits lexemes = None

-- ---- the whole value

abbrev pub one_token : Values → List Lexeme → Option Value
one_token v (lexeme ∷ []) = single v lexeme
one_token v lexemes = None

abbrev pub value_by : More → Values → List Lexeme → Option Value
value_by more.Faces v lexemes = family lexemes
value_by more.Digits v lexemes = or_else (one_token v lexemes) (digits lexemes)
value_by other v lexemes = one_token v lexemes

unfoldable pub longhand : PropertyRow → List Lexeme → Option Value
longhand row lexemes =
    if is_name (is_word (codes "initial")) lexemes then Some values.Initial
    else if row.inherited && is_name (is_word (codes "inherit")) lexemes then Some values.Inherit
    else value_by row.values.more row.values lexemes
