-- Each way to build a reader keeps `SpellsPlaced`; and readers over bytes that pass a test.
use Rattle.std.proofs.Common.{◌≡◌, inl, inr, ℕ, Bool, true, false, cond, List, [], ◌∷◌, ◌++◌, Ok, refl, sym, ap, subst, ◌∙◌, append_assoc}
use Rattle.std.specs.Prelude.{⊤}
use Rattle.reading.specs.Readers.{Read, Reader, ReadOr, ReaderOr, ◌>>=◌, give, follow, mapped, choice, read_or, telling, next_is, skip}
use Rattle.reading.specs.Grammars.{Grammar, AllPass, Seq}
use Rattle.reading.specs.Placed.{PlacedGrammar, Anywhere, PlacedSeq, PlacedMapped, PlacedEither, SpellsPlaced}
use Rattle.reading.specs.Spelling.{Spells}
use Rattle.reading.proofs.SpellLaws.{ok, bind_ok, same_answer, told_ok}

-- ---- wherever it stands

pub anywhere_spells : {E A : Type 0} {f : ReaderOr E A} {R : Grammar A} {Ends : List ℕ → Type 0} → Spells f R Ends → SpellsPlaced f (Anywhere R) Ends
anywhere_spells p = record {
  takes = λ bytes x rest e. p.takes bytes x rest e;
  again = λ text x rest r ends. p.again text x rest r ends;
}

-- ---- the same reader for another grammar, or with another demand on what comes behind

pub placed_as : {E A : Type 0} {f : ReaderOr E A} {R S : PlacedGrammar A} {Ends : List ℕ → Type 0} → SpellsPlaced f R Ends
    → ((text behind : List ℕ) (x : A) → R text behind x → S text behind x) → ((text behind : List ℕ) (x : A) → S text behind x → R text behind x) → SpellsPlaced f S Ends
placed_as p to from = record {
  takes = λ bytes x rest e.
      let t = p.takes bytes x rest e in
      (t.0, to t.0 rest x t.1, t.2);
  again = λ text x rest s ends. p.again text x rest (from text rest x s) ends;
}

pub placed_before : {E A : Type 0} {f : ReaderOr E A} {R : PlacedGrammar A} {Ends More : List ℕ → Type 0} → SpellsPlaced f R Ends
    → ((rest : List ℕ) → More rest → Ends rest) → SpellsPlaced f R More
placed_before p lets = record {
  takes = λ bytes x rest e. p.takes bytes x rest e;
  again = λ text x rest r ends. p.again text x rest r (lets rest ends);
}

-- ---- one after the other

pub placed_follow : {E A B : Type 0} {f : ReaderOr E A} {g : A → ReaderOr E B} {R : PlacedGrammar A} {S : A → PlacedGrammar B} {Ends More : List ℕ → Type 0}
    → SpellsPlaced f R Ends → ((x : A) → SpellsPlaced (g x) (S x) More)
    → ((x : A) (y : B) (back rest : List ℕ) → S x back rest y → More rest → Ends (back ++ rest))
    → SpellsPlaced (follow f g) (PlacedSeq R S) More
placed_follow {E = E} {A = A} {B = B} {f = f} {g = g} {R = R} p q lets = record {
  takes = λ bytes y rest e.
      let a = bind_ok (f bytes) (λ (x : A × List ℕ). g x.0 x.1) (y, rest) e in
      let t = p.takes bytes a.0.0 a.0.1 a.1 in
      let u = (q a.0.0).takes a.0.1 y rest a.2 in
      (t.0 ++ u.0, (a.0.0, t.0, u.0, subst (λ (b : List ℕ). R t.0 b a.0.0) u.2 t.1, u.1, refl), t.2 ∙ ap (λ (s : List ℕ). t.0 ++ s) u.2 ∙ sym (append_assoc t.0 u.0 rest));
  again = λ text y rest r ends.
      let first = p.again r.1 r.0 (r.2 ++ rest) r.3 (lets r.0 y r.2 rest r.4 ends) in
      let second = (q r.0).again r.2 y rest r.4 ends in
      let whole : text ++ rest ≡ r.1 ++ (r.2 ++ rest) = ap (λ (s : List ℕ). s ++ rest) r.5 ∙ append_assoc r.1 r.2 rest in
      ap (follow f g) whole ∙ ap (λ (s : ReadOr E A). s >>= λ (x : A × List ℕ). g x.0 x.1) first ∙ second;
}

pub placed_mapped : {E A B : Type 0} (view : A → B) {f : ReaderOr E A} {R : PlacedGrammar A} {Ends : List ℕ → Type 0} → SpellsPlaced f R Ends → SpellsPlaced (mapped view f) (PlacedMapped view R) Ends
placed_mapped {E = E} {A = A} {B = B} view {f = f} {R = R} {Ends = Ends} p = record {
  takes = λ bytes y rest e.
      let a = bind_ok (f bytes) (λ (x : A × List ℕ). give (view x.0) x.1) (y, rest) e in
      let same = same_answer {E = E} (view a.0.0) y a.0.1 rest a.2 in
      let t = p.takes bytes a.0.0 a.0.1 a.1 in
      (t.0, (a.0.0, subst (λ (b : List ℕ). R t.0 b a.0.0) same.1 t.1, sym same.0), t.2 ∙ ap (λ (s : List ℕ). t.0 ++ s) same.1);
  again = λ text y rest r ends.
      let first = p.again text r.0 rest r.1 ends in
      ap (λ (s : ReadOr E A). s >>= λ (x : A × List ℕ). give (view x.0) x.1) first ∙ rw r.2 refl;
}

-- ---- one or the other

choice_takes : {E A : Type 0} (f g : ReaderOr E A) (R S : PlacedGrammar A) (Ends More : List ℕ → Type 0) (bytes rest : List ℕ) (x : A) (t : Bool) → SpellsPlaced f R Ends → SpellsPlaced g S More
    → cond t (f bytes) (g bytes) ≡ ok (x, rest) → (text : List ℕ) × PlacedEither R S text rest x × (bytes ≡ text ++ rest)
choice_takes f g R S Ends More bytes rest x true p q e =
    let t = p.takes bytes x rest e in
    (t.0, inl t.1, t.2)
choice_takes f g R S Ends More bytes rest x false p q e =
    let t = q.takes bytes x rest e in
    (t.0, inr t.1, t.2)

pub placed_choice : {E A : Type 0} (test : List ℕ → Bool) {f g : ReaderOr E A} {R S : PlacedGrammar A} {Ends : List ℕ → Type 0} → SpellsPlaced f R Ends → SpellsPlaced g S Ends
    → ((text : List ℕ) (x : A) (rest : List ℕ) → R text rest x → Ends rest → test (text ++ rest) ≡ true)
    → ((text : List ℕ) (x : A) (rest : List ℕ) → S text rest x → Ends rest → test (text ++ rest) ≡ false)
    → SpellsPlaced (choice test f g) (PlacedEither R S) Ends
placed_choice {E = E} {A = A} test {f = f} {g = g} {R = R} {S = S} {Ends = Ends} p q first second = record {
  takes = λ bytes x rest e. choice_takes f g R S Ends Ends bytes rest x (test bytes) p q e;
  again = λ text x rest r ends. elim r [
    | inl a ↦ ap (λ (t : Bool). cond t (f (text ++ rest)) (g (text ++ rest))) (first text x rest a ends) ∙ p.again text x rest a ends
    | inr b ↦ ap (λ (t : Bool). cond t (f (text ++ rest)) (g (text ++ rest))) (second text x rest b ends) ∙ q.again text x rest b ends
  ];
}

-- ---- another word for where it stopped

pub placed_telling : {E A : Type 0} (told : List ℕ → E) {f : Reader A} {R : PlacedGrammar A} {Ends : List ℕ → Type 0} → SpellsPlaced f R Ends → SpellsPlaced (telling told f) R Ends
placed_telling {E = E} {A = A} told {f = f} p = record {
  takes = λ bytes x rest e. p.takes bytes x rest (told_ok told (f bytes) (x, rest) e);
  again = λ text x rest r ends. ap (λ (s : Read A). read_or told s) (p.again text x rest r ends);
}

-- ---- one after the other, where the second reader is known only for values that the first gives

pub follow_spells_where : {E A B : Type 0} (P : A → Type 0) {f : ReaderOr E A} {g : A → ReaderOr E B} {R : Grammar A} {S : A → Grammar B} {Ends More : List ℕ → Type 0}
    → Spells f R Ends → ((text : List ℕ) (x : A) → R text x → P x) → ((x : A) → P x → Spells (g x) (S x) More)
    → ((x : A) (y : B) (back rest : List ℕ) → P x → S x back y → More rest → Ends (back ++ rest))
    → Spells (follow f g) (Seq R S) More
follow_spells_where {E = E} {A = A} {B = B} P {f = f} {g = g} p known q lets = record {
  takes = λ bytes y rest e.
      let a = bind_ok (f bytes) (λ (x : A × List ℕ). g x.0 x.1) (y, rest) e in
      let t = p.takes bytes a.0.0 a.0.1 a.1 in
      let u = (q a.0.0 (known t.0 a.0.0 t.1)).takes a.0.1 y rest a.2 in
      (t.0 ++ u.0, (a.0.0, t.0, u.0, t.1, u.1, refl), t.2 ∙ ap (λ (s : List ℕ). t.0 ++ s) u.2 ∙ sym (append_assoc t.0 u.0 rest));
  again = λ text y rest r ends.
      let is = known r.1 r.0 r.3 in
      let first = p.again r.1 r.0 (r.2 ++ rest) r.3 (lets r.0 y r.2 rest is r.4 ends) in
      let second = (q r.0 is).again r.2 y rest r.4 ends in
      let whole : text ++ rest ≡ r.1 ++ (r.2 ++ rest) = ap (λ (s : List ℕ). s ++ rest) r.5 ∙ append_assoc r.1 r.2 rest in
      ap (follow f g) whole ∙ ap (λ (s : ReadOr E A). s >>= λ (x : A × List ℕ). g x.0 x.1) first ∙ second;
}

-- ---- over the bytes that pass a test

skip_by : (test : ℕ → Bool) (byte : ℕ) (bytes rest : List ℕ) (u : ⊤) (t : Bool) → test byte ≡ t
    → (skip test bytes ≡ ok (u, rest) → (text : List ℕ) × AllPass test text × (bytes ≡ text ++ rest))
    → cond t (skip test bytes) (ok (tt, byte ∷ bytes)) ≡ ok (u, rest) → (text : List ℕ) × AllPass test text × (byte ∷ bytes ≡ text ++ rest)
skip_by test byte bytes rest u true is later e =
    let r = later e in
    (byte ∷ r.0, (is, r.1), ap (λ (b : List ℕ). byte ∷ b) r.2)
skip_by test byte bytes rest u false is later e = ([], tt, (same_answer {E = List ℕ} tt u (byte ∷ bytes) rest e).1)

skip_takes : (test : ℕ → Bool) (bytes rest : List ℕ) (u : ⊤) → skip test bytes ≡ ok (u, rest) → (text : List ℕ) × AllPass test text × (bytes ≡ text ++ rest)
unfolding skip
skip_takes test [] rest u e = ([], tt, (same_answer {E = List ℕ} tt u [] rest e).1)
skip_takes test (byte ∷ bytes) rest u e = skip_by test byte bytes rest u (test byte) refl (skip_takes test bytes rest u) e

skip_ends : (test : ℕ → Bool) (rest : List ℕ) → next_is test rest ≡ false → skip test rest ≡ Ok (tt, rest)
unfolding skip
skip_ends test [] ends = refl
skip_ends test (byte ∷ rest) ends = rw ends refl

pub skip_again : (test : ℕ → Bool) (text rest : List ℕ) → AllPass test text → next_is test rest ≡ false → skip test (text ++ rest) ≡ Ok (tt, rest)
unfolding skip
skip_again test [] rest pass ends = skip_ends test rest ends
skip_again test (byte ∷ text) rest pass ends = rw pass.0 (skip_again test text rest pass.1 ends)

pub skip_spells : (test : ℕ → Bool) → Spells (skip test) (λ text u. AllPass test text) (λ rest. next_is test rest ≡ false)
skip_spells test = record {
  takes = λ bytes u rest e. skip_takes test bytes rest u e;
  again = λ text u rest pass ends. skip_again test text rest pass ends;
}
