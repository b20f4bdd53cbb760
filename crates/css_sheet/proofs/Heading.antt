-- The selectors of a rule, turn by turn.
use Rattle.std.proofs.Common.{◌≡◌, ℕ, ◌<◌, true, false, List, length, Ok, Err, refl}
use Rattle.std.specs.Prelude.{not}
use Rattle.reading.specs.Readers.{ReadOr, repeat}
use Rattle.reading.proofs.Turns.{IsTurning, turning_starts, turning_goes_on, turning_stops, turning_ends}
use Rattle.css_values.specs.Error.{Stop}
use Rattle.reading.specs.declared.stop.Stop.TheVariants as stops
use Rattle.reading.specs.Stop.{Stops}
use Rattle.css_values.specs.Error.{Fault}
use Rattle.css_sheet.specs.Sheet.{Heads, head_turn, heads, heads_go_on, no_heads}

abbrev pub total_of : (rules : ℕ) → List ℕ → ReadOr Fault Heads
total_of rules text = repeat heads_go_on (head_turn rules) no_heads text

abbrev pub IsHeading : (rules : ℕ) → (text : List ℕ) → Heads → (rest : List ℕ) → Type 0
IsHeading rules text now rest = IsTurning heads_go_on (head_turn rules) (total_of rules text) now rest

pub heading_starts : (rules : ℕ) (text : List ℕ) → IsHeading rules text no_heads text
heading_starts rules text = turning_starts heads_go_on (head_turn rules) no_heads text

pub heading_goes_on : (rules : ℕ) (text rest after : List ℕ) (now more : Heads) → IsHeading rules text now rest → not now.opened ≡ true → head_turn rules now rest ≡ Ok (more, after) → length after < length rest
    → IsHeading rules text more after
heading_goes_on rules text rest after now more is g e lt = turning_goes_on more after is g e lt

whole_ok : (rules : ℕ) (text rest : List ℕ) (now : Heads) → total_of rules text ≡ Ok (now, rest) → heads rules text ≡ Ok (now.selectors, rest)
unfolding heads
whole_ok rules text rest now e = rw e refl

whole_err : (rules : ℕ) (text : List ℕ) (fault : Fault) → total_of rules text ≡ Err fault → heads rules text ≡ Err fault
unfolding heads
whole_err rules text fault e = rw e refl

pub heading_stops : (rules : ℕ) (text rest : List ℕ) (now : Heads) (stop_ : Stop) → IsHeading rules text now rest → not now.opened ≡ true → Stops stop_ (head_turn rules now rest) → Stops stop_ (heads rules text)
heading_stops rules text rest now (stops.Refused kind left) is g e = whole_err rules text (kind, left.now) (turning_stops (kind, left.now) is g e)
heading_stops rules text rest now stops.Memory is g e = tt

pub heading_ends : (rules : ℕ) (text rest : List ℕ) (now : Heads) → IsHeading rules text now rest → not now.opened ≡ false → heads rules text ≡ Ok (now.selectors, rest)
heading_ends rules text rest now is g = whole_ok rules text rest now (turning_ends is g)
