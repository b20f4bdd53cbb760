-- What stands in an element, tag by tag.
use Rattle.std.proofs.Common.{◌≡◌, ℕ, ◌<◌, true, false, List, [], length, Ok, Err, refl, sym, subst, ◌∙◌}
use Rattle.std.specs.Prelude.{Bool}
use Rattle.reading.specs.Readers.{ReadOr, repeat}
use Rattle.reading.proofs.Turns.{IsTurning, turning_starts, turning_goes_on, turning_stops, turning_ends}
use Rattle.html_read.specs.declared.content.Base.{Base}
use Rattle.html_tokens.specs.Error.{Stop}
use Rattle.reading.specs.declared.stop.Stop.TheVariants as stops
use Rattle.html_tokens.specs.Error.{Fault}
use Rattle.reading.specs.Stop.{Stops}
use Rattle.html_read.specs.Reading.{Content, content_of, content, turn, goes_on, with_gap}
use Rattle.html_read.specs.Values.{Node}
use Rattle.html_read.specs.Views.{opened_of}
use Rattle.html_read.specs.declared.content.Open.{Open as CodeOpen}

-- the turns of the content of a base, from this state on
abbrev pub total_of : (size : ℕ) → Base → Content → (text : List ℕ) → ReadOr Fault Content
total_of size base begun text = repeat (goes_on base) (turn size base) begun text

abbrev pub IsReading : (size : ℕ) → Base → (nodes : List Node) → (text : List ℕ) → Content → (rest : List ℕ) → Type 0
IsReading size base nodes text now rest = (begun : Content) × (there : List ℕ) × (with_gap base (content_of [] nodes) text ≡ Ok (begun, there))
    × IsTurning (goes_on base) (turn size base) (total_of size base begun there) now rest

pub reading_starts : (size : ℕ) (base : Base) (nodes : List Node) (text there : List ℕ) (begun : Content) → with_gap base (content_of [] nodes) text ≡ Ok (begun, there) → IsReading size base nodes text begun there
reading_starts size base nodes text there begun e = (begun, there, e, turning_starts (goes_on base) (turn size base) begun there)

pub reading_goes_on : (size : ℕ) (base : Base) (nodes : List Node) (text rest after : List ℕ) (now later : Content) → IsReading size base nodes text now rest → goes_on base now rest ≡ true
    → turn size base now rest ≡ Ok (later, after) → length after < length rest → IsReading size base nodes text later after
reading_goes_on size base nodes text rest after now later is g e lt = (is.0, is.1, is.2, turning_goes_on later after is.3 g e lt)

content_err : (size : ℕ) (base : Base) (nodes : List Node) (text there : List ℕ) (begun : Content) (fault : Fault) → with_gap base (content_of [] nodes) text ≡ Ok (begun, there)
    → total_of size base begun there ≡ Err fault → content size base nodes text ≡ Err fault
unfolding content
content_err size base nodes text there begun fault e f = rw (e, f) refl

content_ok : (size : ℕ) (base : Base) (nodes : List Node) (text there rest : List ℕ) (begun whole : Content) → with_gap base (content_of [] nodes) text ≡ Ok (begun, there)
    → total_of size base begun there ≡ Ok (whole, rest) → content size base nodes text ≡ Ok (whole.nodes, rest)
unfolding content
content_ok size base nodes text there rest begun whole e f = rw (e, f) refl

pub reading_stops : (size : ℕ) (base : Base) (nodes : List Node) (text rest : List ℕ) (now : Content) (stop_ : Stop) → IsReading size base nodes text now rest → goes_on base now rest ≡ true
    → Stops stop_ (turn size base now rest) → Stops stop_ (content size base nodes text)
reading_stops size base nodes text rest now (stops.Refused kind left) is g e = content_err size base nodes text is.1 is.0 (kind, left.now) is.2 (turning_stops (kind, left.now) is.3 g e)
reading_stops size base nodes text rest now stops.Memory is g e = tt

pub reading_ends : (size : ℕ) (base : Base) (nodes all : List Node) (text rest : List ℕ) (now : Content) → IsReading size base nodes text now rest → goes_on base now rest ≡ false → now.nodes ≡ all
    → content size base nodes text ≡ Ok (all, rest)
reading_ends size base nodes all text rest now is g same = rw (← same) (content_ok size base nodes text is.1 rest is.0 now is.2 (turning_ends is.3 g))

-- ---- as the code has it

pub content_begins : (size : ℕ) (base : Base) (old new : List Node) (text rest : List ℕ) (opened shown : List CodeOpen) → shown ≡ opened → opened ≡ []
    → with_gap base (content_of (opened_of shown) old) text ≡ Ok (content_of (opened_of shown) new, rest) → IsReading size base old text (content_of (opened_of opened) new) rest
content_begins size base old new text rest opened shown same none e =
    let here : with_gap base (content_of [] old) text ≡ Ok (content_of [] new, rest) =
    subst (λ (o : List CodeOpen). with_gap base (content_of (opened_of o) old) text ≡ Ok (content_of (opened_of o) new, rest)) (same ∙ none) e in
    subst (λ (o : List CodeOpen). IsReading size base old text (content_of (opened_of o) new) rest) (sym none) (reading_starts size base old text rest (content_of [] new) here)

pub still : (base : Base) (opened shown : List CodeOpen) (nodes : List Node) (rest : List ℕ) (r t : Bool) → shown ≡ opened → ((n : List Node) → r ≡ goes_on base (content_of (opened_of shown) n) rest) → r ≡ t
    → goes_on base (content_of (opened_of opened) nodes) rest ≡ t
still base opened shown nodes rest r t same e is = subst (λ (o : List CodeOpen). goes_on base (content_of (opened_of o) nodes) rest ≡ t) same (sym (e nodes) ∙ is)
