-- What stands in `body`, tag by tag, with the places of its nodes.
use Rattle.std.proofs.Common.{◌≡◌, ℕ, ◌<◌, true, false, List, [], length, Ok, Err, refl, sym, subst, ◌∙◌}
use Rattle.std.specs.Prelude.{Bool}
use Rattle.reading.specs.Readers.{ReadOr, repeat}
use Rattle.reading.proofs.Turns.{IsTurning, turning_starts, turning_goes_on, turning_stops, turning_ends}
use Rattle.reading.specs.declared.stop.Stop.TheVariants as stops
use Rattle.reading.specs.Stop.{Stops}
use Rattle.html_tokens.specs.Error.{Fault, Stop}
use Rattle.html_read.specs.declared.content.Base.TheVariants as bases
use Rattle.html_read.specs.declared.content.Open.{Open as CodeOpen}
use Rattle.html_read.specs.Places.{Placed, placed, placed_step, placed_turn, placed_content}
use Rattle.html_read.specs.Reading.{content_of, goes_on, with_gap}
use Rattle.html_read.specs.Values.{Node}
use Rattle.html_read.specs.Views.{opened_of}

abbrev pub goes : Placed → List ℕ → Bool
goes so_far bytes = goes_on bases.Body so_far.content bytes

-- the turns from this state on
abbrev pub total_of : (size : ℕ) → Placed → (text : List ℕ) → ReadOr Fault Placed
total_of size begun text = repeat goes (placed_turn size) begun text

abbrev pub IsPlacing : (size : ℕ) → Placed → (text : List ℕ) → Placed → (rest : List ℕ) → Type 0
IsPlacing size first text now rest = (begun : Placed) × (there : List ℕ) × (placed_step size (with_gap bases.Body) first text ≡ Ok (begun, there))
    × IsTurning goes (placed_turn size) (total_of size begun there) now rest

placing_starts : (size : ℕ) (first begun : Placed) (text there : List ℕ) → placed_step size (with_gap bases.Body) first text ≡ Ok (begun, there) → IsPlacing size first text begun there
placing_starts size first begun text there e = (begun, there, e, turning_starts goes (placed_turn size) begun there)

pub placing_goes_on : (size : ℕ) (first now later : Placed) (text rest after : List ℕ) → IsPlacing size first text now rest → goes now rest ≡ true
    → placed_turn size now rest ≡ Ok (later, after) → length after < length rest → IsPlacing size first text later after
placing_goes_on size first now later text rest after is g e lt = (is.0, is.1, is.2, turning_goes_on later after is.3 g e lt)

content_err : (size : ℕ) (first begun : Placed) (text there : List ℕ) (fault : Fault) → placed_step size (with_gap bases.Body) first text ≡ Ok (begun, there)
    → total_of size begun there ≡ Err fault → placed_content size first text ≡ Err fault
unfolding placed_content
content_err size first begun text there fault e f = rw (e, f) refl

content_ok : (size : ℕ) (first begun whole : Placed) (text there rest : List ℕ) → placed_step size (with_gap bases.Body) first text ≡ Ok (begun, there)
    → total_of size begun there ≡ Ok (whole, rest) → placed_content size first text ≡ Ok (whole.places, rest)
unfolding placed_content
content_ok size first begun whole text there rest e f = rw (e, f) refl

pub placing_stops : (size : ℕ) (first now : Placed) (text rest : List ℕ) (stop_ : Stop) → IsPlacing size first text now rest → goes now rest ≡ true
    → Stops stop_ (placed_turn size now rest) → Stops stop_ (placed_content size first text)
placing_stops size first now text rest (stops.Refused kind left) is g e = content_err size first is.0 text is.1 (kind, left.now) is.2 (turning_stops (kind, left.now) is.3 g e)
placing_stops size first now text rest stops.Memory is g e = tt

pub placing_ends : (size : ℕ) (first now : Placed) (text rest : List ℕ) → IsPlacing size first text now rest → goes now rest ≡ false → placed_content size first text ≡ Ok (now.places, rest)
placing_ends size first now text rest is g = content_ok size first is.0 now text is.1 rest is.2 (turning_ends is.3 g)

-- ---- as the code has it

abbrev pub state_of : List CodeOpen → List Node → (places : List ℕ) → Placed
state_of opened nodes places = placed (content_of (opened_of opened) nodes) places

pub content_begins : (size : ℕ) (old new : List Node) (olds news text rest : List ℕ) (opened shown : List CodeOpen) → shown ≡ opened → opened ≡ []
    → placed_step size (with_gap bases.Body) (state_of shown old olds) text ≡ Ok (state_of shown new news, rest) → IsPlacing size (placed (content_of [] old) olds) text (state_of opened new news) rest
content_begins size old new olds news text rest opened shown same none e =
    let here : placed_step size (with_gap bases.Body) (placed (content_of [] old) olds) text ≡ Ok (placed (content_of [] new) news, rest) =
    subst (λ (o : List CodeOpen). placed_step size (with_gap bases.Body) (state_of o old olds) text ≡ Ok (state_of o new news, rest)) (same ∙ none) e in
    subst (λ (o : List CodeOpen). IsPlacing size (placed (content_of [] old) olds) text (state_of o new news) rest) (sym none) (placing_starts size (placed (content_of [] old) olds) (placed (content_of [] new) news) text rest here)
