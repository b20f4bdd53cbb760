-- Where runs of bytes and texts in either case stop.
use Rattle.std.proofs.Common.{◌≡◌, ℕ, Bool, true, false, cond, eqb, List, [], ◌∷◌, ◌++◌, map, Ok, Err, refl, sym, ap, subst, ◌∙◌, append_assoc}
use Rattle.std.specs.Char.{to_ascii_lowercase}
use Rattle.std.proofs.lemmas.Bool.{eqb-true}
use Rattle.std.proofs.lemmas.List.{append_cancel_right, map-append}
use Rattle.reading.specs.Readers.{Read, strip_either_case, next_is, with_byte, run_of}
use Rattle.reading.specs.Grammars.{RunOf, EitherCase}
use Rattle.reading.specs.Places.{SameNext, IsLocal, IsViable}
use Rattle.reading.proofs.SpellLaws.{ok, stop}
use Rattle.reading.proofs.RunLaws.{run_is, run_again, either_case_spells}
use Rattle.reading.proofs.PlaceLaws.{no_end, next_is_sees}

-- ---- runs

never_byte : (byte : ℕ) (r : Read (List ℕ)) (left : List ℕ) → (r ≡ stop left → ⊥) → with_byte byte r ≡ stop left → ⊥
never_byte byte (Ok x) left never e = absurd cc
never_byte byte (Err there) left never e =
    let same : there ≡ left = cc in
    never (ap (λ (l : List ℕ). stop {A = List ℕ} l) same)

run_never_by : (byte : ℕ) (r : Read (List ℕ)) (bytes left : List ℕ) (t : Bool) → (r ≡ stop left → ⊥) → cond t (with_byte byte r) (ok ([], byte ∷ bytes)) ≡ stop left → ⊥
run_never_by byte r bytes left true never e = never_byte byte r left never e
run_never_by byte r bytes left false never e = absurd cc

-- a run stops nowhere
pub run_never : (test : ℕ → Bool) (bytes left : List ℕ) → run_of test bytes ≡ stop left → ⊥
unfolding run_of
run_never test [] left e = absurd cc
run_never test (byte ∷ bytes) left e = run_never_by byte (run_of test bytes) bytes left (test byte) (run_never test bytes left) e

pub run_of_local : (test : ℕ → Bool) → IsLocal (run_of test)
run_of_local test = record {
  front = λ bytes run rest e. (run, (run_is test bytes run rest e).parts);
  stopped = λ bytes left e. absurd (run_never test bytes left e);
  ok = λ text rest other run s e.
      let r = run_is test (text ++ rest) run rest e in
      let same : text ≡ run = append_cancel_right text run rest r.parts in
      let ends : next_is test other ≡ false = sym ((next_is_sees test).sees rest other s) ∙ r.ends in
      ap (λ (t : List ℕ). run_of test (t ++ other)) same ∙ run_again test run other r.pass ends;
  err = λ text rest other s e. absurd (run_never test (text ++ rest) rest e);
}

pub run_of_viable : (test : ℕ → Bool) → IsViable (run_of test) (RunOf test)
run_of_viable test = record { viable = λ bytes left e. absurd (run_never test bytes left e) }

-- ---- a text in either case

-- the front of a text of the word was read
pub record StopsInCased (word bytes left : List ℕ) : Type 0 where
  pub text : List ℕ
  pub more : List ℕ
  pub front : word ≡ map to_ascii_lowercase text ++ more
  pub parts : bytes ≡ text ++ left

cased_stops_by : (wanted byte : ℕ) (word bytes left : List ℕ) (t : Bool) → eqb (to_ascii_lowercase byte) wanted ≡ t → (strip_either_case word bytes ≡ stop left → StopsInCased word bytes left)
    → cond t (strip_either_case word bytes) (stop (byte ∷ bytes)) ≡ stop left → StopsInCased (wanted ∷ word) (byte ∷ bytes) left
cased_stops_by wanted byte word bytes left true test later e =
    let s = later e in
    let same : wanted ≡ to_ascii_lowercase byte = sym (eqb-true (to_ascii_lowercase byte) wanted test) in
    record { text = byte ∷ s.text; more = s.more; front = rw (same, s.front) refl; parts = ap (λ (b : List ℕ). byte ∷ b) s.parts }
cased_stops_by wanted byte word bytes left false test later e =
    let same : byte ∷ bytes ≡ left = cc in
    record { text = []; more = wanted ∷ word; front = refl; parts = same }

cased_stops : (word bytes left : List ℕ) → strip_either_case word bytes ≡ stop left → StopsInCased word bytes left
unfolding strip_either_case
cased_stops [] bytes left e = absurd cc
cased_stops (wanted ∷ word) [] left e =
    let same : [] ≡ left = cc in
    record { text = []; more = wanted ∷ word; front = refl; parts = same }
cased_stops (wanted ∷ word) (byte ∷ bytes) left e = cased_stops_by wanted byte word bytes left (eqb (to_ascii_lowercase byte) wanted) refl (cased_stops word bytes left) e

cased_not_less : (word later : List ℕ) (c : ℕ) → strip_either_case word later ≡ stop (c ∷ later) → ⊥
cased_not_less word later c e =
    let s = cased_stops word later (c ∷ later) e in
    let longer : (s.text ++ c ∷ []) ++ later ≡ [] ++ later = append_assoc s.text (c ∷ []) later ∙ sym s.parts in
    let none : s.text ++ c ∷ [] ≡ [] = append_cancel_right (s.text ++ c ∷ []) [] later longer in
    no_end s.text c none

cased_local_by : (c : ℕ) (word later more : List ℕ) (t : Bool) → cond t (strip_either_case word later) (stop (c ∷ later)) ≡ stop (c ∷ later)
    → cond t (strip_either_case word more) (stop (c ∷ more)) ≡ stop (c ∷ more)
cased_local_by c word later more true e = absurd (cased_not_less word later c e)
cased_local_by c word later more false e = refl

cased_within : (b : ℕ) (word text rest other : List ℕ) (t : Bool) → (strip_either_case word (text ++ rest) ≡ stop rest → strip_either_case word (text ++ other) ≡ stop other)
    → cond t (strip_either_case word (text ++ rest)) (stop (b ∷ (text ++ rest))) ≡ stop rest → cond t (strip_either_case word (text ++ other)) (stop (b ∷ (text ++ other))) ≡ stop other
cased_within b word text rest other true later e = later e
cased_within b word text rest other false later e =
    let same : (b ∷ text) ++ rest ≡ [] ++ rest = cc in
    let none : b ∷ text ≡ [] = append_cancel_right (b ∷ text) [] rest same in
    absurd cc

cased_err : (word text rest other : List ℕ) → SameNext rest other → strip_either_case word (text ++ rest) ≡ stop rest → strip_either_case word (text ++ other) ≡ stop other
unfolding strip_either_case
cased_err [] text rest other s e = absurd cc
cased_err (wanted ∷ word) [] rest other s e =
    let here : strip_either_case (wanted ∷ word) (s.0 ∷ s.1) ≡ stop (s.0 ∷ s.1) = subst (λ (r : List ℕ). strip_either_case (wanted ∷ word) r ≡ stop r) s.3 e in
    subst (λ (r : List ℕ). strip_either_case (wanted ∷ word) r ≡ stop r) (sym s.4) (cased_local_by s.0 word s.1 s.2 (eqb (to_ascii_lowercase s.0) wanted) here)
cased_err (wanted ∷ word) (b ∷ text) rest other s e = cased_within b word text rest other (eqb (to_ascii_lowercase b) wanted) (cased_err word text rest other s) e

pub either_case_local : (word : List ℕ) → IsLocal (strip_either_case word)
either_case_local word = record {
  front = λ bytes x rest e.
      let t = (either_case_spells word).takes bytes x rest e in
      (t.0, t.2);
  stopped = λ bytes left e.
      let s = cased_stops word bytes left e in
      (s.text, s.parts);
  ok = λ text rest other x s e.
      let t = (either_case_spells word).takes (text ++ rest) x rest e in
      let same : text ≡ t.0 = append_cancel_right text t.0 rest t.2 in
      ap (λ (w : List ℕ). strip_either_case word (w ++ other)) same ∙ (either_case_spells word).again t.0 x other t.1 tt;
  err = λ text rest other s e. cased_err word text rest other s e;
}

-- the end of a word of small letters is small
small_behind : (front more : List ℕ) → map to_ascii_lowercase (front ++ more) ≡ front ++ more → map to_ascii_lowercase more ≡ more
small_behind [] more small = small
small_behind (b ∷ front) more small =
    let later : map to_ascii_lowercase (front ++ more) ≡ front ++ more = cc in
    small_behind front more later

-- where the word's own letters are small
pub either_case_viable : (word : List ℕ) → map to_ascii_lowercase word ≡ word → IsViable (strip_either_case word) (EitherCase word)
either_case_viable word small = record {
  viable = λ bytes left e.
      let s = cased_stops word bytes left e in
      let behind : map to_ascii_lowercase s.more ≡ s.more = small_behind (map to_ascii_lowercase s.text) s.more (subst (λ (w : List ℕ). map to_ascii_lowercase w ≡ w) s.front small) in
      (s.text, record { more = s.more; value = tt; is = map-append to_ascii_lowercase s.text s.more ∙ ap (λ (m : List ℕ). map to_ascii_lowercase s.text ++ m) behind ∙ sym s.front }, s.parts);
}
