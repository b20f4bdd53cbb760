-- Loops over the parts of selectors.
use Rattle.std.proofs.Common.{◌≡◌, ℕ, ◌<◌, true, false, List, length, Ok, Err, refl, sym, ap, ◌∙◌}
use Rattle.std.specs.Prelude.{Bool, not, codes}
use Rattle.reading.specs.Readers.{Read, Reader, mapped, next_is, repeat, starts}
use Rattle.reading.proofs.Turns.{IsTurning, turning_starts, turning_goes_on, turning_stops, turning_ends}
use Rattle.reading.specs.declared.stop.Stop.TheVariants as halts
use Rattle.css_tokens.specs.Lexing.{comment}
use Rattle.css_sheet.specs.Halt.{Halt, Halts}
use Rattle.css_types.specs.Rule.{Compound}
use Rattle.css_sheet.specs.Selector.{Begun, comments, comments_go_on, goes_on, is_dot_or_hash, selector_ends, selector_goes_on, simple, turn}

-- the turns of a loop from `begun` on
abbrev pub IsFrom : {S : Type 0} → (S → List ℕ → Bool) → (S → Reader S) → (begun : S) → (text : List ℕ) → (now : S) → (rest : List ℕ) → Type 0
IsFrom goes turn begun text now rest = IsTurning goes turn (repeat goes turn begun text) now rest

pub stops : {S : Type 0} (goes : S → List ℕ → Bool) (turn : S → Reader S) (begun now : S) (text rest : List ℕ) (halt : Halt) → IsFrom goes turn begun text now rest → goes now rest ≡ true
    → Halts halt (turn now rest) → Halts halt (repeat goes turn begun text)
stops goes turn begun now text rest (halts.Refused why left) is g e = turning_stops left.now is g e
stops goes turn begun now text rest halts.Memory is g e = tt

-- ---- comments

abbrev pub IsPassing : (text rest : List ℕ) → Type 0
IsPassing text rest = IsFrom comments_go_on (λ u. comment) tt text tt rest

pub passing_starts : (text : List ℕ) → IsPassing text text
passing_starts text = turning_starts comments_go_on (λ u. comment) tt text

pub passing_goes_on : (text rest after : List ℕ) → IsPassing text rest → starts (codes "/*") rest ≡ true → comment rest ≡ Ok (tt, after) → length after < length rest → IsPassing text after
passing_goes_on text rest after is g e lt = turning_goes_on tt after is g e lt

pub passing_stops : (text rest left : List ℕ) → IsPassing text rest → starts (codes "/*") rest ≡ true → comment rest ≡ Err left → comments text ≡ Err left
passing_stops text rest left is g e = turning_stops left is g e

pub passing_ends : (text rest : List ℕ) → IsPassing text rest → starts (codes "/*") rest ≡ false → comments text ≡ Ok (tt, rest)
passing_ends text rest is g = turning_ends is g

-- ---- the classes and ids of a compound

abbrev pub IsCompounding : (begun : Compound) → (text : List ℕ) → (now : Compound) → (rest : List ℕ) → Type 0
IsCompounding begun text now rest = IsFrom goes_on simple begun text now rest

pub compounding_starts : (begun : Compound) (text : List ℕ) → IsCompounding begun text begun text
compounding_starts begun text = turning_starts goes_on simple begun text

pub compounding_goes_on : (begun now more : Compound) (text rest after : List ℕ) → IsCompounding begun text now rest → next_is is_dot_or_hash rest ≡ true → simple now rest ≡ Ok (more, after)
    → length after < length rest → IsCompounding begun text more after
compounding_goes_on begun now more text rest after is g e lt = turning_goes_on more after is g e lt

pub compounding_stops : (begun now : Compound) (text rest : List ℕ) (halt : Halt) → IsCompounding begun text now rest → next_is is_dot_or_hash rest ≡ true → Halts halt (simple now rest)
    → Halts halt (repeat goes_on simple begun text)
compounding_stops begun now text rest halt is g e = stops goes_on simple begun now text rest halt is g e

pub compounding_ends : (begun now : Compound) (text rest : List ℕ) → IsCompounding begun text now rest → next_is is_dot_or_hash rest ≡ false → repeat goes_on simple begun text ≡ Ok (now, rest)
compounding_ends begun now text rest is g = turning_ends is g

-- ---- the compounds of a selector

abbrev pub IsJoining : (begun : Begun) → (text : List ℕ) → (now : Begun) → (rest : List ℕ) → Type 0
IsJoining begun text now rest = IsFrom selector_goes_on turn begun text now rest

abbrev pub joined_of : (begun : Begun) → List ℕ → Read (List Compound)
joined_of begun text = mapped (λ end_. end_.compounds) (repeat selector_goes_on turn begun) text

pub joining_starts : (begun : Begun) (text : List ℕ) → IsJoining begun text begun text
joining_starts begun text = turning_starts selector_goes_on turn begun text

pub joining_goes_on : (begun now more : Begun) (text rest after : List ℕ) → IsJoining begun text now rest → not (selector_ends rest) ≡ true → turn now rest ≡ Ok (more, after)
    → length after < length rest → IsJoining begun text more after
joining_goes_on begun now more text rest after is g e lt = turning_goes_on more after is g e lt

pub joining_stops : (begun now : Begun) (text rest : List ℕ) (halt : Halt) → IsJoining begun text now rest → not (selector_ends rest) ≡ true → Halts halt (turn now rest) → Halts halt (joined_of begun text)
joining_stops begun now text rest (halts.Refused why left) is g e =
    let all : repeat selector_goes_on turn begun text ≡ Err left.now = turning_stops left.now is g e in
    rw all refl
joining_stops begun now text rest halts.Memory is g e = tt

pub joining_ends : (begun now : Begun) (text rest : List ℕ) → IsJoining begun text now rest → not (selector_ends rest) ≡ false → joined_of begun text ≡ Ok (now.compounds, rest)
joining_ends begun now text rest is g =
    let all : repeat selector_goes_on turn begun text ≡ Ok (now, rest) = turning_ends is g in
    rw all refl

pub not_ended : (rest : List ℕ) (ends : Bool) → ends ≡ selector_ends rest → ends ≡ false → not (selector_ends rest) ≡ true
not_ended rest ends e f = ap not (sym e ∙ f)

pub now_ended : (rest : List ℕ) (ends : Bool) → ends ≡ selector_ends rest → ends ≡ true → not (selector_ends rest) ≡ false
now_ended rest ends e f = ap not (sym e ∙ f)
