-- What becomes of each declaration of a text, also of those that are refused.
use Rattle.std.specs.Prelude.{◌≡◌, ℕ, Bool, ◌||◌, if◌then◌else◌, List, codes, Option, Some, None, is_some, option_map, Result, Ok}
use Rattle.reading.specs.Readers.{follow, mapped, choice, strip, starts}
use Rattle.reading.specs.Stop.{place_before}
use Rattle.css_types.specs.declared.value.Declaration.{Declaration}
use Rattle.css_tokens.specs.Lexing.{gap}
use Rattle.css_values.specs.declared.judging.Meaning.{Meaning}
use Rattle.css_values.specs.declared.judging.Meaning.TheVariants as meanings
use Rattle.css_values.specs.declared.reports.Fate.{Fate}
use Rattle.css_values.specs.declared.reports.Fate.TheVariants as fates
use Rattle.css_values.specs.declared.reports.Report as code
use Rattle.css_values.specs.declared.within.Within.{Within}
use Rattle.css_values.specs.Declarations.{Stated, stated, at_rule_ahead, before_rest, refused_at, turn, unsupported, with_stated}
use Rattle.css_values.specs.Error.{Fault, Judged, spelled}
use Rattle.css_values.specs.Judging.{expanded, is_unsupported, meaning}
use Rattle.css_values.specs.Value.{no_items}

-- a declaration, where it stands, and what becomes of it
pub record Reported : Type 0 where
  pub name : List ℕ
  pub place : ℕ
  pub fate : Fate

abbrev pub reported_of : code.Report → Reported
reported_of r = record { name = r.name.now; place = r.place; fate = r.fate }

-- one that declares nothing is dropped
abbrev pub dropped : Meaning → Fate
dropped meanings.Unknown = fates.UnknownName
dropped known = fates.InvalidValue

abbrev pub dropped_or_kept : Meaning → (declares_none : Bool) → Fate
dropped_or_kept known none = if none then dropped known else fates.Kept

abbrev pub is_refused : Within → Stated → Bool
is_refused within s = is_unsupported s.name s.value.has_var s.value.lexemes || is_some (refused_at within s.value.at_sign)

abbrev pub fate : Within → Stated → Fate
fate within s = if is_refused within s then fates.Unsupported else dropped_or_kept (meaning s.name) (no_items (expanded s.name s.value.lexemes))

-- `end` is the place of the end of the text
abbrev pub reported : Within → (end_ : ℕ) → Stated → Reported
reported within end_ s = record { name = s.name; place = place_before end_ s.left; fate = fate within s }

-- ---- reading

abbrev pub report : Within → (end_ : ℕ) → Judged Reported
report within end_ = choice (at_rule_ahead within) unsupported (mapped (reported within end_) (spelled (stated within)))

-- the report of a declaration, or none for a `;`
abbrev pub item : Within → (end_ : ℕ) → Judged (Option Reported)
item within end_ = choice (starts (codes ";")) (mapped (λ u. None) (spelled (strip (codes ";")))) (mapped Some (report within end_))

unfoldable pub next : Within → (end_ : ℕ) → Judged (Option Reported)
next within end_ = follow (item within end_) (λ told. mapped (λ white. told) (spelled gap))

-- ---- beside what is read of the same text

abbrev pub judged_if : Within → (end_ : ℕ) → List Declaration → Option Stated → Result (List Declaration) Fault
judged_if within end_ kept None = Ok kept
judged_if within end_ kept (Some s) = with_stated within end_ kept s

-- It is the report of the declaration that comes, if one does; where declarations are read, the same one is judged here,
-- with those that are kept before it, and reading goes on behind it.
pub record IsJudged (within : Within) (end_ : ℕ) (text rest : List ℕ) (told : Option Reported) : Type 0 where
  pub stands : Option Stated
  pub is_told : told ≡ option_map (reported within end_) stands
  pub is_read : (kept : List Declaration) → turn within end_ kept text ≡ before_rest rest (judged_if within end_ kept stands)
