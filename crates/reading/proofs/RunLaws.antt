-- Runs of bytes that pass a test, and texts in either case.
use Rattle.std.proofs.Common.{◌≡◌, ℕ, Bool, true, false, cond, eqb, List, [], ◌∷◌, ◌++◌, Ok, Err, map, refl, sym, ap}
use Rattle.std.specs.Prelude.{⊤}
use Rattle.std.specs.Char.{to_ascii_lowercase}
use Rattle.std.proofs.lemmas.Bool.{eqb-true, eq-eqb}
use Rattle.reading.specs.Readers.{Read, strip_either_case, next_is, with_byte, run_of}
use Rattle.reading.specs.Grammars.{AllPass, RunOf, EitherCase}
use Rattle.reading.specs.Spelling.{Anything, Spells}
use Rattle.reading.proofs.SpellLaws.{ok, stop, same_answer}

-- ---- runs

-- what stands behind the byte in front
pub with_byte_ok : (byte : ℕ) (r : Read (List ℕ)) (run rest : List ℕ) → with_byte byte r ≡ ok (run, rest) → (inside : List ℕ) × (r ≡ ok (inside, rest)) × (run ≡ byte ∷ inside)
with_byte_ok byte (Ok x) run rest e =
    let same = same_answer {E = List ℕ} (byte ∷ x.0) run x.1 rest e in
    (x.0, rw same.1 refl, sym same.0)
with_byte_ok byte (Err left) run rest e = absurd cc

-- a run, and the bytes behind it
pub record IsRun (test : ℕ → Bool) (bytes run rest : List ℕ) : Type 0 where
  pub parts : bytes ≡ run ++ rest
  pub pass : AllPass test run
  pub ends : next_is test rest ≡ false

run_by : (test : ℕ → Bool) (byte : ℕ) (bytes run rest : List ℕ) (t : Bool) → test byte ≡ t → ((inside : List ℕ) → run_of test bytes ≡ ok (inside, rest) → IsRun test bytes inside rest)
    → cond t (with_byte byte (run_of test bytes)) (ok ([], byte ∷ bytes)) ≡ ok (run, rest) → IsRun test (byte ∷ bytes) run rest
run_by test byte bytes run rest true is later e =
    let w = with_byte_ok byte (run_of test bytes) run rest e in
    let r = later w.0 w.1 in
    rw w.2 (record { parts = ap (λ (b : List ℕ). byte ∷ b) r.parts; pass = (is, r.pass); ends = r.ends })
run_by test byte bytes run rest false is later e =
    let same = same_answer {E = List ℕ} [] run (byte ∷ bytes) rest e in
    rw (← same.0, ← same.1) (record { parts = refl; pass = tt; ends = is })

pub run_is : (test : ℕ → Bool) (bytes run rest : List ℕ) → run_of test bytes ≡ ok (run, rest) → IsRun test bytes run rest
unfolding run_of
run_is test [] run rest e =
    let same = same_answer {E = List ℕ} [] run [] rest e in
    rw (← same.0, ← same.1) (record { parts = refl; pass = tt; ends = refl })
run_is test (byte ∷ bytes) run rest e = run_by test byte bytes run rest (test byte) refl (λ inside. run_is test bytes inside rest) e

run_ends : (test : ℕ → Bool) (rest : List ℕ) → next_is test rest ≡ false → run_of test rest ≡ Ok ([], rest)
unfolding run_of
run_ends test [] ends = refl
run_ends test (byte ∷ rest) ends = rw ends refl

pub run_again : (test : ℕ → Bool) (run rest : List ℕ) → AllPass test run → next_is test rest ≡ false → run_of test (run ++ rest) ≡ Ok (run, rest)
unfolding run_of
run_again test [] rest pass ends = run_ends test rest ends
run_again test (byte ∷ run) rest pass ends = rw (pass.0, run_again test run rest pass.1 ends) refl

pub run_of_spells : (test : ℕ → Bool) → Spells (run_of test) (RunOf test) (λ rest. next_is test rest ≡ false)
run_of_spells test = record {
  takes = λ bytes run rest e.
      let r = run_is test bytes run rest e in
      (run, (refl, r.pass), r.parts);
  again = λ text run rest is ends. rw is.0 (run_again test text rest is.1 ends);
}

-- ---- a text in either case

-- the text that was read
pub record IsCased (word bytes rest : List ℕ) : Type 0 where
  pub text : List ℕ
  pub is : map to_ascii_lowercase text ≡ word
  pub parts : bytes ≡ text ++ rest

cased_by : (wanted byte : ℕ) (word bytes rest : List ℕ) (x : ⊤) (t : Bool) → eqb (to_ascii_lowercase byte) wanted ≡ t → (strip_either_case word bytes ≡ ok (x, rest) → IsCased word bytes rest)
    → cond t (strip_either_case word bytes) (stop (byte ∷ bytes)) ≡ ok (x, rest) → IsCased (wanted ∷ word) (byte ∷ bytes) rest
cased_by wanted byte word bytes rest x true test later e =
    let r = later e in
    let same : to_ascii_lowercase byte ≡ wanted = eqb-true (to_ascii_lowercase byte) wanted test in
    record { text = byte ∷ r.text; is = rw (same, r.is) refl; parts = ap (λ (b : List ℕ). byte ∷ b) r.parts }
cased_by wanted byte word bytes rest x false test later e = absurd cc

pub cased : (word bytes rest : List ℕ) (x : ⊤) → strip_either_case word bytes ≡ ok (x, rest) → IsCased word bytes rest
unfolding strip_either_case
cased [] bytes rest x e = record { text = []; is = refl; parts = (same_answer {E = List ℕ} tt x bytes rest e).1 }
cased (wanted ∷ word) [] rest x e = absurd cc
cased (wanted ∷ word) (byte ∷ bytes) rest x e = cased_by wanted byte word bytes rest x (eqb (to_ascii_lowercase byte) wanted) refl (cased word bytes rest x) e

pub cased_again : (text rest : List ℕ) → strip_either_case (map to_ascii_lowercase text) (text ++ rest) ≡ Ok (tt, rest)
unfolding strip_either_case
cased_again [] rest = refl
cased_again (byte ∷ text) rest = rw (eq-eqb (to_ascii_lowercase byte) (to_ascii_lowercase byte) refl) (cased_again text rest)

pub either_case_spells : (word : List ℕ) → Spells (strip_either_case word) (EitherCase word) Anything
either_case_spells word = record {
  takes = λ bytes x rest e.
      let c = cased word bytes rest x e in
      (c.text, c.is, c.parts);
  again = λ text x rest is ends. rw (← is) (cased_again text rest);
}
