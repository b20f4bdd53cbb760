-- Runs of bytes, as loops read them one by one.
use Rattle.std.proofs.Common.{◌≡◌, ℕ, ◌≤◌, ◌-◌, None, Bool, true, false, List, [], ◌∷◌, ◌++◌, length, Ok, Err, refl, sym, ap, ◌∙◌, append_assoc, append-nil, length-append, arith}
use Rattle.std.proofs.lemmas.List.{nil_from_length}
use Rattle.std.proofs.lemmas.Str.{IsCharBoundary-at_seam}
use Rattle.std.specs.Str.{IsUtf8, IsCharBoundary}
use Rattle.reading.specs.Readers.{Read, run_of, next_is, with_byte, IsAsciiFirst}
use Rattle.reading.specs.White.{is_white}
use Rattle.reading.specs.Cuts.{EndsWith, ReadsFront}

-- a front before the bytes that are read
unfoldable pub with_front : List ℕ → Read (List ℕ) → Read (List ℕ)
with_front front (Ok x) = Ok (front ++ x.0, x.1)
with_front front (Err left) = Err left

pub no_front : (r : Read (List ℕ)) → with_front [] r ≡ r
unfolding with_front
no_front (Ok x) = refl
no_front (Err left) = refl

pub longer_front : (front : List ℕ) (byte : ℕ) (r : Read (List ℕ)) → with_front front (with_byte byte r) ≡ with_front (front ++ byte ∷ []) r
unfolding with_front
longer_front front byte (Ok x) = ap (λ (run : List ℕ). Ok (run, x.1)) (sym (append_assoc front (byte ∷ []) x.0))
longer_front front byte (Err left) = refl

pub record IsRunning (test : ℕ → Bool) (text rest : List ℕ) : Type 0 where
  pub front : List ℕ
  pub parts : text ≡ front ++ rest
  pub same : run_of test text ≡ with_front front (run_of test rest)

pub running_starts : (test : ℕ → Bool) (text : List ℕ) → IsRunning test text text
running_starts test text = record { front = []; parts = refl; same = sym (no_front (run_of test text)) }

run_step : (test : ℕ → Bool) (byte : ℕ) (after : List ℕ) → test byte ≡ true → run_of test (byte ∷ after) ≡ with_byte byte (run_of test after)
unfolding run_of
run_step test byte after e = rw e refl

pub running_goes_on : {test : ℕ → Bool} {text rest : List ℕ} (byte : ℕ) (after : List ℕ) → IsRunning test text rest → rest ≡ byte ∷ after → test byte ≡ true → IsRunning test text after
running_goes_on {test = test} {text = text} {rest = rest} byte after now first e = record {
  front = now.front ++ byte ∷ [];
  parts = now.parts ∙ ap (λ (r : List ℕ). now.front ++ r) first ∙ sym (append_assoc now.front (byte ∷ []) after);
  same = now.same ∙ ap (λ (r : List ℕ). with_front now.front (run_of test r)) first ∙ ap (with_front now.front) (run_step test byte after e) ∙ longer_front now.front byte (run_of test after);
}

run_none : (test : ℕ → Bool) (byte : ℕ) (after : List ℕ) → test byte ≡ false → run_of test (byte ∷ after) ≡ Ok ([], byte ∷ after)
unfolding run_of
run_none test byte after e = rw e refl

run_nil : (test : ℕ → Bool) → run_of test [] ≡ Ok ([], [])
unfolding run_of
run_nil test = refl

front_nil : (front rest : List ℕ) → with_front front (Ok ([], rest)) ≡ Ok (front ++ [], rest)
unfolding with_front
front_nil front rest = refl

running_is_done : {test : ℕ → Bool} {text rest : List ℕ} → IsRunning test text rest → run_of test rest ≡ Ok ([], rest) → ReadsFront (run_of test text) text rest
running_is_done {test = test} {text = text} {rest = rest} now done =
    let read : run_of test text ≡ Ok (now.front, rest) =
    now.same ∙ ap (with_front now.front) done ∙ front_nil now.front rest ∙ ap (λ (run : List ℕ). Ok (run, rest)) (append-nil now.front) in
    (now.front, read, now.parts)

pub running_stops : {test : ℕ → Bool} {text rest : List ℕ} (byte : ℕ) (after : List ℕ) → IsRunning test text rest → rest ≡ byte ∷ after → test byte ≡ false → ReadsFront (run_of test text) text rest
running_stops {test = test} {text = text} {rest = rest} byte after now first e =
    let done : run_of test rest ≡ Ok ([], rest) = rw first (run_none test byte after e) in
    running_is_done now done

-- a run goes on to the end of the text
pub running_to_end : {test : ℕ → Bool} {text rest : List ℕ} → IsRunning test text rest → length rest ≡ 0 → ReadsFront (run_of test text) text rest
running_to_end {test = test} {rest = rest} now none = running_is_done now (rw (nil_from_length rest none) (run_nil test))

-- no byte beyond ASCII passes the test
abbrev pub IsOfAscii : (ℕ → Bool) → Type 0
IsOfAscii test = (byte : ℕ) → 128 ≤ byte → test byte ≡ false

at_none : (test : ℕ → Bool) (rest : List ℕ) → IsOfAscii test → IsAsciiFirst None rest → run_of test rest ≡ Ok ([], rest)
at_none test [] ascii none = run_nil test
at_none test (byte ∷ after) ascii none = run_none test byte after (ascii byte none)

pub running_ends : {test : ℕ → Bool} {text rest : List ℕ} → IsOfAscii test → IsRunning test text rest → IsAsciiFirst None rest → ReadsFront (run_of test text) text rest
running_ends {test = test} {text = text} {rest = rest} ascii now none = running_is_done now (at_none test rest ascii none)

-- no byte that passes comes next where none of ASCII does
pub none_ahead : {test : ℕ → Bool} → IsOfAscii test → (text : List ℕ) → IsAsciiFirst None text → next_is test text ≡ false
none_ahead ascii [] none = refl
none_ahead ascii (byte ∷ after) none = ascii byte none

-- a text is cut before what it ends with
pub cut : (text rest : List ℕ) → EndsWith text rest → IsUtf8 rest → IsCharBoundary text (length text - length rest)
cut text rest ends utf8 =
    let at : length text - length rest ≡ length ends.0 = omega (arith, ap length ends.1, length-append ends.0 rest) in
    rw at (IsCharBoundary-at_seam text ends.0 rest ends.1 utf8)

-- a byte before a text that ends so
pub ends_behind : (text after rest : List ℕ) (byte : ℕ) (r : Read (List ℕ)) → text ≡ byte ∷ after → ReadsFront r after rest → EndsWith text rest
ends_behind text after rest byte r first read = (byte ∷ read.0, first ∙ ap (λ (b : List ℕ). byte ∷ b) read.2)

-- ---- white space

pub white_is_ascii : IsOfAscii is_white
white_is_ascii byte le = grind arith

pub no_white : (text : List ℕ) → IsAsciiFirst None text → next_is is_white text ≡ false
no_white text none = none_ahead white_is_ascii text none
