-- Reading sheets: rules one after the other, with the limits on rules and declarations. CSS 2, 4.1.7 and 5.2.1.
use Rattle.std.specs.Prelude.{ℕ, ◌+◌, ◌-◌, ◌*◌, ◌^◌, min, nat_lt, Bool, true, false, ◌||◌, not, ◌==◌, if◌then◌else◌, List, [], ◌∷◌, ◌++◌, map, codes, length, Ok, Err}
use Rattle.reading.specs.Readers.{ReadOr, Reader, follow, mapped, choice, strip, starts, next_is, telling, repeat}
use Rattle.css_types.specs.declared.value.Declaration.{Declaration}
use Rattle.css_tokens.specs.Lexing.{gap}
use Rattle.css_values.specs.declared.error.Refusal.TheVariants.{CssSyntax, Unsupported, TooManyRules}
use Rattle.css_values.specs.declared.within.Within.TheVariants as within_
use Rattle.css_values.specs.Declarations.{declarations}
use Rattle.css_values.specs.Error.{Fault, Judged, spelled}
use Rattle.css_values.specs.Value.{no_items}
use Rattle.css_types.specs.Rule.{Compound, Ruling}
use Rattle.css_sheet.specs.Selector.{selector}

-- what is read of the sheets so far: their rules, and the count of their declarations, each counted for each selector
pub record Sheet : Type 0 where
  pub rules : List Ruling
  pub declared : ℕ

abbrev pub empty : Sheet
empty = record { rules = []; declared = 0 }

-- ---- the selectors of a rule

-- the signs of selectors and rules that the profile doesn't have: @ : [ + ~
abbrev pub is_of_others : ℕ → Bool
is_of_others byte = byte == 64 || byte == 58 || byte == 91 || byte == 43 || byte == 126

-- a selector doesn't go on with what is left
abbrev pub cannot : List ℕ → Fault
cannot left = if next_is is_of_others left then (Unsupported, left) else (CssSyntax, left)

-- the selectors of a rule so far, and whether its `{` was read
pub record Heads : Type 0 where
  pub selectors : List (List Compound)
  pub opened : Bool

-- each selector makes a rule, up to the limit
abbrev pub counted : (rules : ℕ) → Heads → (left : List ℕ) → List Compound → List ℕ → ReadOr Fault (List (List Compound))
counted rules h left s rest = if nat_lt 4096 (rules + length (h.selectors ++ s ∷ [])) then Err (TooManyRules, left) else Ok (h.selectors ++ s ∷ [], rest)

abbrev pub next_selector : (rules : ℕ) → Heads → Judged (List (List Compound))
next_selector rules h bytes = follow (telling cannot selector) (counted rules h bytes) bytes

-- what stands behind a selector: a `,`, or the `{`; whether it is the `{`
abbrev pub opening : Reader Bool
opening = choice (starts (codes ",")) (mapped (λ u. false) (strip (codes ","))) (mapped (λ u. true) (strip (codes "{")))

abbrev pub behind_selector : List (List Compound) → Judged Heads
behind_selector selectors = mapped (λ opened. record { selectors = selectors; opened = opened }) (spelled opening)

abbrev pub head_turn : (rules : ℕ) → Heads → Judged Heads
head_turn rules h = follow (spelled gap) (λ white. follow (next_selector rules h) behind_selector)

abbrev pub heads_go_on : Heads → List ℕ → Bool
heads_go_on h bytes = not h.opened

abbrev pub no_heads : Heads
no_heads = record { selectors = []; opened = false }

unfoldable pub heads : (rules : ℕ) → Judged (List (List Compound))
heads rules = mapped (λ h. h.selectors) (repeat heads_go_on (head_turn rules) no_heads)

-- ---- rules

-- each selector with all the declarations; a count past the last number of usize counts as that number
abbrev pub with_rules : Sheet → (selectors : List (List Compound)) → List Declaration → Sheet
with_rules s selectors declared = record {
  rules = s.rules ++ map (λ selector. record { selector = selector; declarations = declared }) selectors;
  declared = min (s.declared + min (length selectors * length declared) (2 ^ 64 - 1)) (2 ^ 64 - 1);
}

abbrev pub block : (end_ : ℕ) → Sheet → (selectors : List (List Compound)) → Judged Sheet
block end_ s selectors = follow (declarations (within_.Rule (length selectors) s.declared) end_) (λ declared. mapped (λ u. with_rules s selectors declared) (spelled (strip (codes "}"))))

abbrev pub rule : (end_ : ℕ) → Sheet → Judged Sheet
rule end_ s = follow (heads (length s.rules)) (block end_ s)

abbrev pub turn : (end_ : ℕ) → Sheet → Judged Sheet
turn end_ s = follow (rule end_ s) (λ more. mapped (λ white. more) (spelled gap))

abbrev pub goes_on : Sheet → List ℕ → Bool
goes_on s bytes = not (no_items bytes)

-- a sheet whose text ends at `end`, behind the rules of others
unfoldable pub sheet : (end_ : ℕ) → Sheet → Judged Sheet
sheet end_ s = follow (spelled gap) (λ white. repeat goes_on (turn end_) s)
