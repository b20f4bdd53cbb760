-- Declarations, one after the other: each is judged once it is wholly read. CSS Syntax 3, 5.4.5.
use Rattle.std.specs.Prelude.{ℕ, ◌+◌, ◌*◌, nat_lt, Bool, true, false, ◌&&◌, not, if◌then◌else◌, List, [], ◌++◌, codes, length, Option, Some, None, Result, Ok, Err}
use Rattle.reading.specs.Readers.{Reader, ReadOr, refuse, follow, mapped, choice, strip, starts, repeat}
use Rattle.css_types.specs.declared.value.Declaration.{Declaration}
use Rattle.css_tokens.specs.Lexing.{gap, name, name_ahead}
use Rattle.css_values.specs.declared.error.Refusal.TheVariants.{Unsupported, TooManyRules}
use Rattle.css_values.specs.declared.within.Within.{Within}
use Rattle.css_values.specs.declared.within.Within.TheVariants as within_
use Rattle.reading.specs.Stop.{place_before}
use Rattle.css_values.specs.Error.{Fault, Judged, spelled}
use Rattle.css_values.specs.Judging.{is_unsupported, expanded, placed}
use Rattle.css_values.specs.Value.{Written, value, no_items}

-- a declaration as it stands: its name as it is written, its value, and the bytes from its name on
pub record Stated : Type 0 where
  pub name : List ℕ
  pub value : Written
  pub left : List ℕ

-- the name of a property; a `-` before a number begins one that doesn't go on
unfoldable pub property_name : Reader (List ℕ)
property_name = choice name_ahead name (choice (starts (codes "-")) (follow (strip (codes "-")) (λ u. refuse)) refuse)

unfoldable pub stated : Within → Reader Stated
stated within bytes =
    follow property_name (λ n. follow gap (λ white. follow (strip (codes ":")) (λ u. mapped (λ v. record { name = n; value = v; left = bytes }) (value within)))) bytes

-- ---- judging

-- the longhands that it declares; `end` is the place of the end of the text
abbrev pub declared : (end_ : ℕ) → Stated → List Declaration
declared end_ s = placed (record { important = s.value.important; place = place_before end_ s.left }) (expanded s.name s.value.lexemes)

-- the limit on declarations, each counted once for each selector of its rule
abbrev pub are_too_many : Within → (count : ℕ) → Bool
are_too_many within_.Attribute count = false
are_too_many (within_.Rule selectors before) count = nat_lt 65536 (before + selectors * count)

abbrev pub counted : Within → (left : List ℕ) → List Declaration → Result (List Declaration) Fault
counted within left all = if are_too_many within (length all) then Err (TooManyRules, left) else Ok all

-- in a sheet an `@` begins a rule that the profile doesn't have
abbrev pub refused_at : Within → Option (List ℕ) → Option (List ℕ)
refused_at within_.Attribute at_sign = None
refused_at (within_.Rule selectors before) at_sign = at_sign

abbrev pub unless_at : Option (List ℕ) → Result (List Declaration) Fault → Result (List Declaration) Fault
unless_at (Some left) others = Err (Unsupported, left)
unless_at None others = others

-- the declarations with those of this one behind them
abbrev pub with_stated : Within → (end_ : ℕ) → List Declaration → Stated → Result (List Declaration) Fault
with_stated within end_ kept s =
    if is_unsupported s.name s.value.has_var s.value.lexemes then Err (Unsupported, s.left)
    else unless_at (refused_at within s.value.at_sign) (counted within s.left (kept ++ declared end_ s))

abbrev pub before_rest : List ℕ → Result (List Declaration) Fault → ReadOr Fault (List Declaration)
before_rest rest (Ok all) = Ok (all, rest)
before_rest rest (Err fault) = Err fault

abbrev pub judged : Within → (end_ : ℕ) → List Declaration → Stated → Judged (List Declaration)
judged within end_ kept s rest = before_rest rest (with_stated within end_ kept s)

-- ---- reading

abbrev pub is_rule : Within → Bool
is_rule within_.Attribute = false
is_rule (within_.Rule selectors before) = true

-- an at-rule stands in a sheet alone
abbrev pub at_rule_ahead : Within → List ℕ → Bool
at_rule_ahead within bytes = is_rule within && starts (codes "@") bytes

abbrev pub unsupported : {A : Type 0} → Judged A
unsupported bytes = Err (Unsupported, bytes)

unfoldable pub declaration : Within → (end_ : ℕ) → List Declaration → Judged (List Declaration)
declaration within end_ kept = choice (at_rule_ahead within) unsupported (follow (spelled (stated within)) (judged within end_ kept))

-- a declaration, or a `;` where there is none
abbrev pub item : Within → (end_ : ℕ) → List Declaration → Judged (List Declaration)
item within end_ kept = choice (starts (codes ";")) (mapped (λ u. kept) (spelled (strip (codes ";")))) (declaration within end_ kept)

abbrev pub turn : Within → (end_ : ℕ) → List Declaration → Judged (List Declaration)
turn within end_ kept = follow (item within end_ kept) (λ all. mapped (λ white. all) (spelled gap))

-- in a rule they end before a `}`, elsewhere with the text
abbrev pub list_ends : Within → List ℕ → Bool
list_ends within_.Attribute bytes = no_items bytes
list_ends (within_.Rule selectors before) bytes = starts (codes "}") bytes

abbrev pub goes_on : Within → List Declaration → List ℕ → Bool
goes_on within kept bytes = not (list_ends within bytes)

unfoldable pub declarations : Within → (end_ : ℕ) → Judged (List Declaration)
declarations within end_ = follow (spelled gap) (λ white. repeat (goes_on within) (turn within end_) [])
