-- The rules of a sheet, turn by turn.
use Rattle.std.proofs.Common.{◌≡◌, ℕ, ◌<◌, true, false, List, length, Ok, [], ◌∷◌, ◌++◌, map, refl, sym, ap, ◌∙◌}
use Rattle.std.specs.Prelude.{Bool, not, min, ◌+◌, ◌*◌}
use Rattle.reading.specs.Readers.{ReadOr, mapped, repeat}
use Rattle.reading.proofs.SpellLaws.{ok, same_answer}
use Rattle.reading.proofs.Turns.{IsTurning, turning_starts, turning_goes_on, turning_stops, turning_ends}
use Rattle.css_values.specs.Error.{Stop}
use Rattle.reading.specs.declared.stop.Stop.TheVariants as stops
use Rattle.reading.specs.Stop.{Stops}
use Rattle.css_values.specs.Error.{Fault}
use Rattle.css_values.specs.Value.{no_items}
use Rattle.css_sheet.specs.Default.{IsDefault, default_rules}
use Rattle.css_sheet.specs.declared.default.TheConstants.{DEFAULT_SHEET}
use Rattle.css_types.specs.Rule.{Ruling, selector_of}
use Rattle.css_sheet.specs.Sheet.{Sheet, empty, goes_on, sheet, turn, with_rules}
use Rattle.css_types.specs.declared.rule.Selector.{Selector}
use Rattle.css_types.specs.declared.value.Declaration.{Declaration}
use Rattle.std.proofs.lemmas.List.{append-nil, length-map, nil_from_length}

abbrev pub total_of : (end_ : ℕ) → Sheet → List ℕ → ReadOr Fault Sheet
total_of end_ begun text = repeat goes_on (turn end_) begun text

abbrev pub IsSheeting : (end_ : ℕ) → (begun : Sheet) → (text : List ℕ) → (now : Sheet) → (rest : List ℕ) → Type 0
IsSheeting end_ begun text now rest = IsTurning goes_on (turn end_) (total_of end_ begun text) now rest

pub sheeting_starts : (end_ : ℕ) (begun : Sheet) (text : List ℕ) → IsSheeting end_ begun text begun text
sheeting_starts end_ begun text = turning_starts goes_on (turn end_) begun text

pub sheeting_goes_on : (end_ : ℕ) (begun now more : Sheet) (text rest after : List ℕ) → IsSheeting end_ begun text now rest → not (no_items rest) ≡ true → turn end_ now rest ≡ Ok (more, after) → length after < length rest
    → IsSheeting end_ begun text more after
sheeting_goes_on end_ begun now more text rest after is g e lt = turning_goes_on more after is g e lt

pub sheeting_stops : (end_ : ℕ) (begun now : Sheet) (text rest : List ℕ) (stop_ : Stop) → IsSheeting end_ begun text now rest → not (no_items rest) ≡ true → Stops stop_ (turn end_ now rest)
    → Stops stop_ (total_of end_ begun text)
sheeting_stops end_ begun now text rest (stops.Refused kind left) is g e = turning_stops (kind, left.now) is g e
sheeting_stops end_ begun now text rest stops.Memory is g e = tt

pub sheeting_ends : (end_ : ℕ) (begun now : Sheet) (text rest : List ℕ) → IsSheeting end_ begun text now rest → not (no_items rest) ≡ false → total_of end_ begun text ≡ Ok (now, rest)
sheeting_ends end_ begun now text rest is g = turning_ends is g

pub some_left : (rest : List ℕ) (has : Bool) → has ≡ not (no_items rest) → has ≡ true → not (no_items rest) ≡ true
some_left rest has e f = sym e ∙ f

pub none_left : (rest : List ℕ) (has : Bool) → has ≡ not (no_items rest) → has ≡ false → not (no_items rest) ≡ false
none_left rest has e f = sym e ∙ f

-- ---- the rules of a block

-- these selectors with all the declarations
abbrev pub ruled : List Selector → List Declaration → List Ruling
ruled selectors declared = map (λ selector. record { selector = selector_of selector; declarations = declared }) selectors

-- the rules now, with those of the selectors that are left, are all
pub record IsRuling (begun now : Sheet) (all left : List Selector) (count : ℕ) (declared : List Declaration) : Type 0 where
  pub same : now.rules ++ ruled left declared ≡ begun.rules ++ ruled all declared
  pub number : now.declared ≡ begun.declared
  pub counted : count ≡ length left

ruled_views : (selectors : List Selector) (declared : List Declaration) → ruled selectors declared ≡ map (λ selector. record { selector = selector; declarations = declared }) (map selector_of selectors)
ruled_views [] declared = refl
ruled_views (s ∷ selectors) declared = ap (λ (l : List Ruling). record { selector = selector_of s; declarations = declared } ∷ l) (ruled_views selectors declared)

pub ruling_ends : (begun : Sheet) (rules : List Ruling) (number sum product : ℕ) (all left : List Selector) (count lengths : ℕ) (declared : List Declaration)
    → IsRuling begun (record { rules = rules; declared = number }) all left count declared → count ≡ 0 → lengths ≡ length all → product ≡ min (lengths * length declared) 18446744073709551615
    → sum ≡ min (number + product) 18446744073709551615 → record { rules = rules; declared = sum } ≡ with_rules begun (map selector_of all) declared
ruling_ends begun rules number sum product all left count lengths declared is none many times plus =
    let whole : rules ≡ begun.rules ++ ruled all declared =
    sym (append-nil rules) ∙ ap (λ (l : List Selector). rules ++ ruled l declared) (sym (nil_from_length left (sym is.counted ∙ none))) ∙ is.same in
    let total : sum ≡ min (begun.declared + min (length (map selector_of all) * length declared) 18446744073709551615) 18446744073709551615 =
    plus ∙ ap (λ (n : ℕ). min (n + product) 18446744073709551615) is.number
    ∙ ap (λ (n : ℕ). min (begun.declared + n) 18446744073709551615) (times ∙ ap (λ (n : ℕ). min (n * length declared) 18446744073709551615) (many ∙ sym (length-map all selector_of))) in
    let all_rules : rules ≡ begun.rules ++ map (λ selector. record { selector = selector; declarations = declared }) (map selector_of all) =
    whole ∙ ap (λ (l : List Ruling). begun.rules ++ l) (ruled_views all declared) in
    rw (all_rules, total) refl

-- ---- one sheet

pub rules_read : (end_ e : ℕ) (begun now : Sheet) (text rest : List ℕ) → e ≡ end_ → begun ≡ empty → sheet e begun text ≡ Ok (now, rest) → mapped (λ s. s.rules) (sheet end_ empty) text ≡ Ok (now.rules, rest)
rules_read end_ e begun now text rest same none is =
    let here : sheet end_ empty text ≡ Ok (now, rest) = ap (λ (n : ℕ). sheet n empty text) (sym same) ∙ ap (λ (s : Sheet). sheet e s text) (sym none) ∙ is in
    rw here refl

-- ---- the default sheet

rules_are : (rules : List Ruling) (declared : ℕ) (now : Sheet) (rest left : List ℕ) → ok {E = Fault} (record { rules = rules; declared = declared }, left) ≡ ok (now, rest) → now.rules ≡ rules
rules_are rules declared now rest left e = ap (λ (s : Sheet). s.rules) (sym (same_answer (record { rules = rules; declared = declared }) now left rest e).0)

pub default_read : (e : ℕ) (begun now : Sheet) (rest : List ℕ) → IsDefault → e ≡ length DEFAULT_SHEET.now → begun ≡ empty → sheet e begun DEFAULT_SHEET.now ≡ Ok (now, rest) → now.rules ≡ default_rules
default_read e begun now rest default same none is =
    let here : sheet (length DEFAULT_SHEET.now) empty DEFAULT_SHEET.now ≡ Ok (now, rest) = ap (λ (n : ℕ). sheet n empty DEFAULT_SHEET.now) (sym same) ∙ ap (λ (s : Sheet). sheet e s DEFAULT_SHEET.now) (sym none) ∙ is in
    rules_are default_rules 61 now rest [] (sym default ∙ here)
