-- The end of bytes that may be any, looked for place by place.
use Rattle.std.proofs.Common.{◌≡◌, ℕ, ◌<◌, ◌≤◌, ◌+◌, Bool, true, false, eqb, List, [], ◌∷◌, ◌++◌, length, take, drop, get_or, Ok, Err, refl, sym, ap, subst, ◌∙◌, append_assoc, append-nil, arith}
use denote.Bor.{Bor}
use Rattle.std.specs.Prelude.{Some, None, ⊤, ◌≢◌}
use Rattle.std.proofs.lemmas.Bool.{ne_eqb}
use Rattle.std.proofs.lemmas.List.{drop_all, take_more, drop_more}
use Rattle.std.proofs.Common.{slice_index_or}
use Rattle.reading.proofs.UpToLaws.{until_here}
use Rattle.reading.specs.Readers.{Reader, until, with_byte, can_read, up_to}
use Rattle.reading.specs.Endings.{EndsHere}
use Rattle.reading.proofs.Running.{with_front, no_front, longer_front}

-- nothing was found in the front
pub record IsSeeking (test : List ℕ → Bool) (text front rest : List ℕ) : Type 0 where
  pub parts : text ≡ front ++ rest
  pub same : until test text ≡ with_front front (until test rest)

until_step : (test : List ℕ → Bool) (byte : ℕ) (after : List ℕ) → test (byte ∷ after) ≡ false → until test (byte ∷ after) ≡ with_byte byte (until test after)
unfolding until
until_step test byte after e = rw e refl

seeking_goes_on : (test : List ℕ → Bool) (text front after : List ℕ) (byte : ℕ) → IsSeeking test text front (byte ∷ after) → test (byte ∷ after) ≡ false → IsSeeking test text (front ++ byte ∷ []) after
seeking_goes_on test text front after byte now e = record {
  parts = now.parts ∙ sym (append_assoc front (byte ∷ []) after);
  same = now.same ∙ ap (with_front front) (until_step test byte after e) ∙ longer_front front byte (until test after);
}

front_ok : (front run rest : List ℕ) → with_front front (Ok (run, rest)) ≡ Ok (front ++ run, rest)
unfolding with_front
front_ok front run rest = refl

found : (test : List ℕ → Bool) (text front rest : List ℕ) → IsSeeking test text front rest → test rest ≡ true → until test text ≡ Ok (front, rest)
found test text front rest now e =
    now.same ∙ ap (with_front front) (until_here test rest e) ∙ front_ok front [] rest ∙ ap (λ (run : List ℕ). Ok (run, rest)) (append-nil front)

until_nil : (test : List ℕ → Bool) → test [] ≡ false → until test [] ≡ Err []
unfolding until
until_nil test e = rw e refl

front_err : (front left : List ℕ) → with_front front (Err left) ≡ Err left
unfolding with_front
front_err front left = refl

missed : (test : List ℕ → Bool) (text front : List ℕ) → IsSeeking test text front [] → test [] ≡ false → until test text ≡ Err []
missed test text front now e = now.same ∙ ap (with_front front) (until_nil test e) ∙ front_err front []

-- ---- the loop, by the place that it is at

pub record IsAt (f : Reader ⊤) (text : List ℕ) (at : ℕ) : Type 0 where
  pub within : at ≤ length text
  pub seeking : IsSeeking (can_read f) text (take at text) (drop at text)

pub at_start : (f : Reader ⊤) (text : List ℕ) → IsAt f text 0
at_start f text = record { within = omega arith; seeking = record { parts = refl; same = sym (no_front (until (can_read f) text)) } }

-- no end can be read here
pub at_not_here : (f : Reader ⊤) (text : List ℕ) (at : ℕ) → IsAt f text at → at < length text → EndsHere f text at None → IsAt f text (at + 1)
at_not_here f text at now lt none =
    let e : can_read f (get_or text at 0 ∷ drop (at + 1) text) ≡ false = subst (λ (r : List ℕ). can_read f r ≡ false) (drop_more text at 0 lt) none in
    let here : IsSeeking (can_read f) text (take at text) (get_or text at 0 ∷ drop (at + 1) text) =
    subst (λ (r : List ℕ). IsSeeking (can_read f) text (take at text) r) (drop_more text at 0 lt) now.seeking in
    let later = seeking_goes_on (can_read f) text (take at text) (drop (at + 1) text) (get_or text at 0) here e in
    record {
      within = omega arith;
      seeking = subst (λ (front : List ℕ). IsSeeking (can_read f) text front (drop (at + 1) text)) (sym (take_more text at 0 lt)) later;
    }

-- it doesn't begin with another byte than its mark
pub not_begun : (f : Reader ⊤) (text bytes : List ℕ) (at mark : ℕ) → ((byte : ℕ) (after : List ℕ) → eqb byte mark ≡ false → can_read f (byte ∷ after) ≡ false)
    → bytes ≡ text → at < length text → slice_index_or bytes at 0 ≢ mark → can_read f (drop at text) ≡ false
not_begun f text bytes at mark begins same lt other =
    rw (drop_more text at 0 lt) (begins (get_or text at 0) (drop (at + 1) text) (ne_eqb (get_or text at 0) mark (λ e. other (rw same e))))

read_by : (f : Reader ⊤) (text inside here rest : List ℕ) → until (can_read f) text ≡ Ok (inside, here) → f here ≡ Ok (tt, rest) → up_to f text ≡ Ok (inside, rest)
unfolding up_to
read_by f text inside here rest e g = rw (e, g) refl

at_end : (f : Reader ⊤) (text rest : List ℕ) (at : ℕ) → IsAt f text at → f (drop at text) ≡ Ok (tt, rest) → up_to f text ≡ Ok (take at text, rest)
at_end f text rest at now e =
    let there : can_read f (drop at text) ≡ true = rw e refl in
    read_by f text (take at text) (drop at text) rest (found (can_read f) text (take at text) (drop at text) now.seeking there) e

pub at_here : (f : Reader ⊤) (text : List ℕ) (at : ℕ) (r : Bor (List ℕ) × Bor (List ℕ)) → IsAt f text at → EndsHere f text at (Some r) → up_to f text ≡ Ok (r.0.now, r.1.now)
at_here f text at r now e = rw e.1 (at_end f text r.1.now at now e.0)

none_by : (f : Reader ⊤) (text left : List ℕ) → until (can_read f) text ≡ Err left → up_to f text ≡ Err left
unfolding up_to
none_by f text left e = rw e refl

pub at_nothing : (f : Reader ⊤) (text : List ℕ) (at : ℕ) → can_read f [] ≡ false → IsAt f text at → length text ≤ at → up_to f text ≡ Err (drop at text)
at_nothing f text at some now le =
    let none : drop at text ≡ [] = drop_all at text le in
    let here : IsSeeking (can_read f) text (take at text) [] = subst (λ (r : List ℕ). IsSeeking (can_read f) text (take at text) r) none now.seeking in
    rw none (none_by f text [] (missed (can_read f) text (take at text) here some))
