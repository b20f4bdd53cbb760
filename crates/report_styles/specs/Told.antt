-- What is told of a document: what becomes of each declaration of its sheets and then of its style attributes, and what
-- is refused; at last, where reading refuses it so, that its sheets have too many rules or declarations. Behind a refusal
-- it goes on. A reader here is given what was told before, and gives it with what it tells;
-- where a refusal takes all the rest, it stops with what was told.
use Rattle.std.specs.Prelude.{ℕ, Bool, true, false, not, ◌||◌, List, [], ◌∷◌, ◌++◌, codes, if◌then◌else◌, length, Option, Some, None, unwrap_or, Ok, Err}
use Rattle.std.specs.List.{list_any}
use Rattle.reading.specs.Readers.{ReadOr, ReaderOr, Read, follow, repeat, strip}
use Rattle.reading.specs.Stop.{place_before, end_of}
use Rattle.css_tokens.specs.Lexing.{gap}
use Rattle.css_values.specs.declared.error.Refusal.{Refusal}
use Rattle.css_values.specs.declared.error.Refusal.TheVariants as kinds
use Rattle.css_values.specs.declared.within.Within.{Within}
use Rattle.css_values.specs.declared.within.Within.TheVariants as within_
use Rattle.css_values.specs.Declarations.{list_ends}
use Rattle.css_values.specs.Error.{Fault, syntax}
use Rattle.css_values.specs.Reports as reports
use Rattle.css_values.specs.Reports.{Reported}
use Rattle.css_values.specs.Value.{no_items}
use Rattle.css_types.specs.Rule.{Compound, Styling}
use Rattle.css_sheet.specs.Sheet.{heads}
use Rattle.css_sheet.specs.Styled.{Placed, styling}
use Rattle.html_read.specs.Values.{TextAt, Acting, Kind, Node, Whole}
use Rattle.html_read.specs.Values as values
use Rattle.report_styles.specs.declared.telling.Places.{Places}
use Rattle.report_styles.specs.GoingOn.{behind_declaration, behind_rule}

pub data Told : Type 0 where
  -- what becomes of a declaration
  judged : (what : Reported) → Told
  -- a refusal of something else, with its place
  refused : (kind : Refusal) (place : ℕ) → Told

-- what is told behind all that was told before, and the text where it goes on; or all of it, where a refusal takes the rest
abbrev pub Telling : Type 0
Telling = ReadOr (List Told) (List Told)

abbrev pub Teller : Type 0
Teller = List Told → ReaderOr (List Told) (List Told)

-- ---- one thing to tell

-- all of a style attribute is told at its own place; other places are counted back from the end of the text
abbrev pub place_in : Places → (left : List ℕ) → ℕ
place_in places left = unwrap_or places.at (place_before places.end left)

abbrev pub with_report : (places : Places) → (told : List Told) → (report : Option Reported) → List Told
with_report places told None = told
with_report places told (Some r) = told ++ judged (record { name = r.name; place = unwrap_or places.at r.place; fate = r.fate }) ∷ []

abbrev pub with_refusal : (places : Places) → (told : List Told) → (fault : Fault) → List Told
with_refusal places told fault = told ++ refused fault.0 (place_in places fault.1) ∷ []

-- past what was read; where it couldn't be, nothing more is read
abbrev pub passed : {A : Type 0} → (places : Places) → (told : List Told) → (read : Read A) → Telling
passed places told (Ok x) = Ok (told, x.1)
passed places told (Err left) = Err (with_refusal places told (syntax left))

abbrev pub past_gap : Places → Teller
past_gap places told text = passed places told (gap text)

abbrev pub past_block_end : Places → Teller
past_block_end places told text = passed places told (strip (codes "}") text)

-- it goes on there, if anywhere
abbrev pub goes_on_at : (told : List Told) → (rest : Option (List ℕ)) → Telling
goes_on_at told (Some rest) = Ok (told, rest)
goes_on_at told None = Err told

-- behind the gap there
abbrev pub goes_on_past_gap : (places : Places) → (told : List Told) → (rest : Option (List ℕ)) → Telling
goes_on_past_gap places told (Some rest) = past_gap places told rest
goes_on_past_gap places told None = Err told

-- ---- declarations

abbrev pub is_in_rule : Within → Bool
is_in_rule within_.Attribute = false
is_in_rule (within_.Rule selectors before) = true

abbrev pub declaration_by : (within : Within) → (places : Places) → (told : List Told) → (text : List ℕ) → (read : ReadOr Fault (Option Reported)) → Telling
declaration_by within places told text (Ok r) = Ok (with_report places told r.0, r.1)
declaration_by within places told text (Err fault) = goes_on_past_gap places (with_refusal places told fault) (behind_declaration (is_in_rule within) text)

abbrev pub declaration : Within → Places → Teller
declaration within places told text = declaration_by within places told text (reports.next within places.end text)

abbrev pub has_declaration : (within : Within) → (told : List Told) → (text : List ℕ) → Bool
has_declaration within told text = not (no_items text || list_ends within text)

unfoldable pub declarations : Within → Places → Teller
declarations within places told = follow (past_gap places told) (repeat (has_declaration within) (declaration within places))

-- ---- rules

-- the counts of its selectors and of the declarations before it play no part
abbrev pub in_block : Within
in_block = within_.Rule 0 0

abbrev pub block : Places → Teller
block places told = follow (declarations in_block places told) (past_block_end places)

abbrev pub rule_by : (places : Places) → (told : List Told) → (text : List ℕ) → (read : ReadOr Fault (List (List Compound))) → Telling
rule_by places told text (Ok h) = block places told h.1
rule_by places told text (Err fault) = goes_on_at (with_refusal places told fault) (behind_rule text)

-- no rule before it counts
abbrev pub rule : Places → Teller
rule places told text = rule_by places told text (heads 0 text)

-- a rule, and the gap behind it
abbrev pub rule_turn : Places → Teller
rule_turn places told = follow (rule places told) (past_gap places)

abbrev pub has_rule : (told : List Told) → (text : List ℕ) → Bool
has_rule told text = not (no_items text)

unfoldable pub rules : Places → Teller
rules places told = follow (past_gap places told) (repeat has_rule (rule_turn places))

-- ---- the sheets and the attributes

abbrev pub all_told : Telling → List Told
all_told (Ok r) = r.0
all_told (Err told) = told

abbrev pub in_sheet : TextAt → Places
in_sheet sheet = record { end = end_of sheet.place sheet.text; at = None }

abbrev pub with_sheet : (told : List Told) → (sheet : TextAt) → List Told
with_sheet told sheet = all_told (rules (in_sheet sheet) told sheet.text)

abbrev pub with_sheets : (told : List Told) → (sheets : List TextAt) → List Told
with_sheets told [] = told
with_sheets told (sheet ∷ sheets) = with_sheets (with_sheet told sheet) sheets

abbrev pub in_attribute : TextAt → Places
in_attribute style = record { end = length style.text; at = Some style.place }

abbrev pub with_attribute : (told : List Told) → (style : TextAt) → List Told
with_attribute told style = all_told (declarations within_.Attribute (in_attribute style) told style.text)

abbrev pub with_style : (told : List Told) → (style : Option TextAt) → List Told
with_style told None = told
with_style told (Some style) = with_attribute told style

abbrev pub with_kind : (told : List Told) → (kind : Kind) → List Told
with_kind told (values.element tag acting) = with_style told acting.style
with_kind told (values.text letters) = told

abbrev pub with_nodes : (told : List Told) → (nodes : List Node) → List Told
with_nodes told [] = told
with_nodes told (node ∷ nodes) = with_nodes (with_kind told node.kind) nodes

-- ---- the limits

abbrev pub is_limit : Told → Bool
is_limit (judged what) = false
is_limit (refused kinds.TooManyRules place) = true
is_limit (refused kind place) = false

abbrev pub with_limit : (told : List Told) → (kind : Refusal) → (place : ℕ) → List Told
with_limit told kinds.TooManyRules place = told ++ refused kinds.TooManyRules place ∷ []
with_limit told kind place = told

abbrev pub with_read : (told : List Told) → (read : Placed Styling) → List Told
with_read told (Ok styles) = told
with_read told (Err fault) = with_limit told fault.0 fault.1

-- where a rule with too many selectors was told, it isn't told again
abbrev pub with_limits : (read : Placed Styling) → (told : List Told) → List Told
with_limits read told = if list_any is_limit told then told else with_read told read

-- ---- a document

unfoldable pub told_of_document : Whole → List Told
told_of_document document = with_limits (styling document) (with_nodes (with_sheets [] document.sheets) document.nodes)
