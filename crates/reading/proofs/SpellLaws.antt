-- Each way to build a reader keeps `Spells`.
use Rattle.std.proofs.Common.{◌≡◌, inl, inr, ℕ, Bool, true, false, cond, eqb, List, [], ◌∷◌, ◌++◌, Option, Some, None, Ok, Err, refl, sym, ap, subst, ◌∙◌, append_assoc}
use Rattle.std.specs.Prelude.{⊤}
use Rattle.std.proofs.lemmas.Bool.{eqb-true, eq-eqb}
use Rattle.reading.specs.Readers.{Read, Reader, ReadOr, ReaderOr, ◌>>=◌, give, follow, mapped, choice, optional, read_or, telling, strip, starts, one_of, after, between}
use Rattle.reading.specs.Grammars.{Grammar, Given, Fixed, OneOf, Seq, Mapped, Either, Optional, After, Between}
use Rattle.reading.specs.Spelling.{Anything, Spells}

-- ---- answers

abbrev pub ok : {E A : Type 0} → A × List ℕ → ReadOr E A
ok x = Ok x

abbrev pub stop : {E A : Type 0} → E → ReadOr E A
stop told = Err told

pub same_stop : {E A : Type 0} (one other : E) → stop {A = A} one ≡ stop other → one ≡ other
same_stop one other e = cc

-- the value of a step that did not stop
pub bind_ok : {E A B : Type 0} (r : ReadOr E A) (f : A × List ℕ → ReadOr E B) (y : B × List ℕ) → (r >>= f) ≡ Ok y → (x : A × List ℕ) × (r ≡ Ok x) × (f x ≡ Ok y)
bind_ok (Ok x) f y e = (x, refl, e)
bind_ok (Err left) f y e = absurd cc

-- a step that stopped, or the one behind it
pub data Stopped {E A B : Type 0} (r : ReadOr E A) (f : A × List ℕ → ReadOr E B) (told : E) : Type 0 where
  at_first : r ≡ Err told → Stopped r f told
  at_second : (x : A × List ℕ) → r ≡ Ok x → f x ≡ Err told → Stopped r f told

pub bind_err : {E A B : Type 0} (r : ReadOr E A) (f : A × List ℕ → ReadOr E B) (told : E) → (r >>= f) ≡ stop told → Stopped r f told
bind_err (Ok x) f told e = at_second x refl e
bind_err {E = E} {A = A} (Err at) f told e =
    let same : at ≡ told = cc in
    at_first (ap (λ (l : E). stop {A = A} l) same)

pub same_answer : {E A : Type 0} (x y : A) (a b : List ℕ) → ok {E = E} (x, a) ≡ ok (y, b) → (x ≡ y) × (a ≡ b)
same_answer {E = E} {A = A} x y a b e =
    let pair : (x, a) ≡ (y, b) = cc in
    (ap (λ (p : A × List ℕ). p.0) pair, ap (λ (p : A × List ℕ). p.1) pair)

-- ---- the leaves

pub give_spells : {E A : Type 0} (x : A) → Spells {E = E} (give x) (Given x) Anything
give_spells {E = E} x = record {
  takes = λ bytes y rest e.
      let same = same_answer x y bytes rest e in
      ([], (refl, sym same.0), same.1);
  again = λ text y rest given ends. rw (given.0, given.1) refl;
}

strip_by : (wanted byte : ℕ) (text bytes rest : List ℕ) (x : ⊤) (t : Bool) → eqb byte wanted ≡ t → (strip text bytes ≡ ok (x, rest) → bytes ≡ text ++ rest)
    → cond t (strip text bytes) (stop (byte ∷ bytes)) ≡ ok (x, rest) → byte ∷ bytes ≡ wanted ∷ (text ++ rest)
strip_by wanted byte text bytes rest x true test later e =
    let same : byte ≡ wanted = eqb-true byte wanted test in
    rw (same, later e) refl
strip_by wanted byte text bytes rest x false test later e = absurd cc

pub strip_takes : (text bytes rest : List ℕ) (x : ⊤) → strip text bytes ≡ ok (x, rest) → bytes ≡ text ++ rest
unfolding strip
strip_takes [] bytes rest x e = (same_answer tt x bytes rest e).1
strip_takes (wanted ∷ text) [] rest x e = absurd cc
strip_takes (wanted ∷ text) (byte ∷ bytes) rest x e = strip_by wanted byte text bytes rest x (eqb byte wanted) refl (strip_takes text bytes rest x) e

pub strip_again : (text rest : List ℕ) → strip text (text ++ rest) ≡ Ok (tt, rest)
unfolding strip
strip_again [] rest = refl
strip_again (wanted ∷ text) rest = rw (eq-eqb wanted wanted refl) (strip_again text rest)

pub strip_spells : (word : List ℕ) → Spells (strip word) (Fixed word) Anything
strip_spells word = record {
  takes = λ bytes x rest e. (word, refl, strip_takes word bytes rest x e);
  again = λ text x rest is ends. rw is (strip_again word rest);
}

-- bytes that begin with a text
pub starts_so : (text rest : List ℕ) → starts text (text ++ rest) ≡ true
unfolding starts
starts_so text rest = rw (strip_again text rest) refl

-- bytes that begin with another byte
pub starts_not : (wanted byte : ℕ) (rest : List ℕ) → eqb byte wanted ≡ false → starts (wanted ∷ []) (byte ∷ rest) ≡ false
unfolding starts strip
starts_not wanted byte rest e = rw e refl

one_by : (test : ℕ → Bool) (b byte : ℕ) (bytes rest : List ℕ) (t : Bool) → test b ≡ t → cond t (ok (b, bytes)) (stop (b ∷ bytes)) ≡ ok (byte, rest)
    → (text : List ℕ) × ((text ≡ byte ∷ []) × (test byte ≡ true)) × (b ∷ bytes ≡ text ++ rest)
one_by test b byte bytes rest true is e =
    let same = same_answer b byte bytes rest e in
    (byte ∷ [], (refl, rw (← same.0) is), rw (same.0, same.1) refl)
one_by test b byte bytes rest false is e = absurd cc

one_takes : (test : ℕ → Bool) (bytes : List ℕ) (byte : ℕ) (rest : List ℕ) → one_of test bytes ≡ ok (byte, rest) → (text : List ℕ) × OneOf test text byte × (bytes ≡ text ++ rest)
unfolding one_of
one_takes test [] byte rest e = absurd cc
one_takes test (b ∷ bytes) byte rest e = one_by test b byte bytes rest (test b) refl e

pub one_again : (test : ℕ → Bool) (byte : ℕ) (rest : List ℕ) → test byte ≡ true → one_of test (byte ∷ rest) ≡ Ok (byte, rest)
unfolding one_of
one_again test byte rest is = rw is refl

pub one_of_spells : (test : ℕ → Bool) → Spells (one_of test) (OneOf test) Anything
one_of_spells test = record {
  takes = λ bytes byte rest e. one_takes test bytes byte rest e;
  again = λ text byte rest is ends. rw is.0 (one_again test byte rest is.1);
}

-- ---- the same reader for another grammar, or with another demand on what comes behind

pub spells_as : {E A : Type 0} {f : ReaderOr E A} {R S : Grammar A} {Ends : List ℕ → Type 0} → Spells f R Ends
    → ((text : List ℕ) (x : A) → R text x → S text x) → ((text : List ℕ) (x : A) → S text x → R text x) → Spells f S Ends
spells_as p to from = record {
  takes = λ bytes x rest e.
      let t = p.takes bytes x rest e in
      (t.0, to t.0 x t.1, t.2);
  again = λ text x rest s ends. p.again text x rest (from text x s) ends;
}

pub spells_before : {E A : Type 0} {f : ReaderOr E A} {R : Grammar A} {Ends More : List ℕ → Type 0} → Spells f R Ends
    → ((rest : List ℕ) → More rest → Ends rest) → Spells f R More
spells_before p lets = record {
  takes = λ bytes x rest e. p.takes bytes x rest e;
  again = λ text x rest r ends. p.again text x rest r (lets rest ends);
}

-- ---- one after the other

pub follow_spells : {E A B : Type 0} {f : ReaderOr E A} {g : A → ReaderOr E B} {R : Grammar A} {S : A → Grammar B} {Ends More : List ℕ → Type 0}
    → Spells f R Ends → ((x : A) → Spells (g x) (S x) More)
    → ((x : A) (y : B) (back rest : List ℕ) → S x back y → More rest → Ends (back ++ rest))
    → Spells (follow f g) (Seq R S) More
follow_spells {E = E} {A = A} {B = B} {f = f} {g = g} p q lets = record {
  takes = λ bytes y rest e.
      let a = bind_ok (f bytes) (λ (x : A × List ℕ). g x.0 x.1) (y, rest) e in
      let t = p.takes bytes a.0.0 a.0.1 a.1 in
      let u = (q a.0.0).takes a.0.1 y rest a.2 in
      (t.0 ++ u.0, (a.0.0, t.0, u.0, t.1, u.1, refl), t.2 ∙ ap (λ (s : List ℕ). t.0 ++ s) u.2 ∙ sym (append_assoc t.0 u.0 rest));
  again = λ text y rest r ends.
      let first = p.again r.1 r.0 (r.2 ++ rest) r.3 (lets r.0 y r.2 rest r.4 ends) in
      let second = (q r.0).again r.2 y rest r.4 ends in
      let whole : text ++ rest ≡ r.1 ++ (r.2 ++ rest) = ap (λ (s : List ℕ). s ++ rest) r.5 ∙ append_assoc r.1 r.2 rest in
      ap (follow f g) whole ∙ ap (λ (s : ReadOr E A). s >>= λ (x : A × List ℕ). g x.0 x.1) first ∙ second;
}

pub mapped_spells : {E A B : Type 0} (view : A → B) {f : ReaderOr E A} {R : Grammar A} {Ends : List ℕ → Type 0} → Spells f R Ends → Spells (mapped view f) (Mapped view R) Ends
mapped_spells {E = E} {A = A} {B = B} view {f = f} {R = R} {Ends = Ends} p = record {
  takes = λ bytes y rest e.
      let a = bind_ok (f bytes) (λ (x : A × List ℕ). give (view x.0) x.1) (y, rest) e in
      let same = same_answer (view a.0.0) y a.0.1 rest a.2 in
      let t = p.takes bytes a.0.0 a.0.1 a.1 in
      (t.0, (a.0.0, t.1, sym same.0), t.2 ∙ ap (λ (s : List ℕ). t.0 ++ s) same.1);
  again = λ text y rest r ends.
      let first = p.again text r.0 rest r.1 ends in
      ap (λ (s : ReadOr E A). s >>= λ (x : A × List ℕ). give (view x.0) x.1) first ∙ rw r.2 refl;
}

pub after_spells : {A : Type 0} (word : List ℕ) {f : Reader A} {R : Grammar A} {Ends : List ℕ → Type 0} → Spells f R Ends → Spells (after word f) (After word R) Ends
unfolding after
after_spells {A = A} word {f = f} {R = R} p = record {
  takes = λ bytes y rest e.
      let a = bind_ok (strip word bytes) (λ (x : ⊤ × List ℕ). f x.1) (y, rest) e in
      let t = p.takes a.0.1 y rest a.2 in
      let first = strip_takes word bytes a.0.1 a.0.0 a.1 in
      (word ++ t.0, (t.0, t.1, refl), first ∙ ap (λ (s : List ℕ). word ++ s) t.2 ∙ sym (append_assoc word t.0 rest));
  again = λ text y rest r ends.
      let whole : text ++ rest ≡ word ++ (r.0 ++ rest) = ap (λ (s : List ℕ). s ++ rest) r.2 ∙ append_assoc word r.0 rest in
      ap (λ (s : List ℕ). strip word s >>= λ (x : ⊤ × List ℕ). f x.1) whole
      ∙ ap (λ (s : Read ⊤). s >>= λ (x : ⊤ × List ℕ). f x.1) (strip_again word (r.0 ++ rest))
      ∙ p.again r.0 y rest r.1 ends;
}

closed_spells : {A : Type 0} (close : List ℕ) {f : Reader A} {R : Grammar A} {Ends : List ℕ → Type 0} → Spells f R Ends → ((rest : List ℕ) → Ends (close ++ rest))
    → Spells (follow f (λ x. follow (strip close) (λ _. give x))) (λ text x. (inside : List ℕ) × R inside x × (text ≡ inside ++ close)) Anything
closed_spells {A = A} close {f = f} {R = R} p lets = record {
  takes = λ bytes y rest e.
      let a = bind_ok (f bytes) (λ (x : A × List ℕ). strip close x.1 >>= λ (u : ⊤ × List ℕ). give x.0 u.1) (y, rest) e in
      let b = bind_ok (strip close a.0.1) (λ (u : ⊤ × List ℕ). give a.0.0 u.1) (y, rest) a.2 in
      let same = same_answer a.0.0 y b.0.1 rest b.2 in
      let t = p.takes bytes a.0.0 a.0.1 a.1 in
      let last : a.0.1 ≡ close ++ rest = strip_takes close a.0.1 b.0.1 b.0.0 b.1 ∙ ap (λ (s : List ℕ). close ++ s) same.1 in
      (t.0 ++ close, (t.0, subst (λ (z : A). R t.0 z) same.0 t.1, refl), t.2 ∙ ap (λ (s : List ℕ). t.0 ++ s) last ∙ sym (append_assoc t.0 close rest));
  again = λ text y rest r ends.
      let whole : text ++ rest ≡ r.0 ++ (close ++ rest) = ap (λ (s : List ℕ). s ++ rest) r.2 ∙ append_assoc r.0 close rest in
      ap (λ (s : List ℕ). f s >>= λ (x : A × List ℕ). strip close x.1 >>= λ (u : ⊤ × List ℕ). give x.0 u.1) whole
      ∙ ap (λ (s : Read A). s >>= λ (x : A × List ℕ). strip close x.1 >>= λ (u : ⊤ × List ℕ). give x.0 u.1) (p.again r.0 y (close ++ rest) r.1 (lets rest))
      ∙ ap (λ (s : Read ⊤). s >>= λ (u : ⊤ × List ℕ). give y u.1) (strip_again close rest);
}

pub between_spells : {A : Type 0} (open_ close : List ℕ) {f : Reader A} {R : Grammar A} {Ends : List ℕ → Type 0} → Spells f R Ends → ((rest : List ℕ) → Ends (close ++ rest))
    → Spells (between open_ f close) (Between open_ R close) Anything
unfolding between
between_spells open_ close p lets =
    spells_as (after_spells open_ (closed_spells close p lets))
    (λ text x r. (r.1.0, r.1.1, r.2 ∙ ap (λ (s : List ℕ). open_ ++ s) r.1.2 ∙ sym (append_assoc open_ r.1.0 close)))
    (λ text x r. (r.0 ++ close, (r.0, r.1, refl), r.2 ∙ append_assoc open_ r.0 close))

-- ---- one or the other

choice_takes : {E A : Type 0} (f g : ReaderOr E A) (R S : Grammar A) (Ends More : List ℕ → Type 0) (bytes rest : List ℕ) (x : A) (t : Bool) → Spells f R Ends → Spells g S More
    → cond t (f bytes) (g bytes) ≡ ok (x, rest) → (text : List ℕ) × Either R S text x × (bytes ≡ text ++ rest)
choice_takes f g R S Ends More bytes rest x true p q e =
    let t = p.takes bytes x rest e in
    (t.0, inl t.1, t.2)
choice_takes f g R S Ends More bytes rest x false p q e =
    let t = q.takes bytes x rest e in
    (t.0, inr t.1, t.2)

pub choice_spells : {E A : Type 0} (test : List ℕ → Bool) {f g : ReaderOr E A} {R S : Grammar A} {Ends : List ℕ → Type 0} → Spells f R Ends → Spells g S Ends
    → ((text : List ℕ) (x : A) (rest : List ℕ) → R text x → Ends rest → test (text ++ rest) ≡ true)
    → ((text : List ℕ) (x : A) (rest : List ℕ) → S text x → Ends rest → test (text ++ rest) ≡ false)
    → Spells (choice test f g) (Either R S) Ends
choice_spells {E = E} {A = A} test {f = f} {g = g} {R = R} {S = S} {Ends = Ends} p q first second = record {
  takes = λ bytes x rest e. choice_takes f g R S Ends Ends bytes rest x (test bytes) p q e;
  again = λ text x rest r ends. elim r [
    | inl a ↦ ap (λ (t : Bool). cond t (f (text ++ rest)) (g (text ++ rest))) (first text x rest a ends) ∙ p.again text x rest a ends
    | inr b ↦ ap (λ (t : Bool). cond t (f (text ++ rest)) (g (text ++ rest))) (second text x rest b ends) ∙ q.again text x rest b ends
  ];
}

pub to_optional : {A : Type 0} (R : Grammar A) (text : List ℕ) (x : Option A) → Either (Mapped Some R) (Given None) text x → Optional R text x
to_optional R text None (inl r) = absurd (cc r.2)
to_optional {A = A} R text (Some x) (inl r) =
    let same : r.0 ≡ x = cc r.2 in
    subst (λ (y : A). R text y) same r.1
to_optional R text x (inr r) = rw r.1 r.0

from_optional : {A : Type 0} (R : Grammar A) (text : List ℕ) (x : Option A) → Optional R text x → Either (Mapped Some R) (Given None) text x
from_optional R text None r = inr (r, refl)
from_optional R text (Some x) r = inl (x, r, refl)

pub optional_spells : {E A : Type 0} (test : List ℕ → Bool) {f : ReaderOr E A} {R : Grammar A} {Ends : List ℕ → Type 0} → Spells f R Ends
    → ((text : List ℕ) (x : A) (rest : List ℕ) → R text x → Ends rest → test (text ++ rest) ≡ true)
    → ((rest : List ℕ) → Ends rest → test rest ≡ false)
    → Spells (optional test f) (Optional R) Ends
optional_spells {E = E} {A = A} test {f = f} {R = R} {Ends = Ends} p first second =
    spells_as (choice_spells test (mapped_spells Some p) (spells_before (give_spells None) (λ rest ends. tt))
    (λ text x rest r ends. first text r.0 rest r.1 ends)
    (λ text x rest r ends. rw r.0 (second rest ends)))
    (to_optional R) (from_optional R)

-- ---- another word for where it stopped

pub told_ok : {E A : Type 0} (told : List ℕ → E) (r : Read A) (x : A × List ℕ) → read_or told r ≡ ok x → r ≡ ok x
told_ok told (Ok y) x e =
    let same : y ≡ x = cc in
    rw same refl
told_ok told (Err left) x e = absurd cc

pub telling_spells : {E A : Type 0} (told : List ℕ → E) {f : Reader A} {R : Grammar A} {Ends : List ℕ → Type 0} → Spells f R Ends → Spells (telling told f) R Ends
telling_spells {E = E} {A = A} told {f = f} p = record {
  takes = λ bytes x rest e. p.takes bytes x rest (told_ok told (f bytes) (x, rest) e);
  again = λ text x rest r ends. ap (λ (s : Read A). read_or told s) (p.again text x rest r ends);
}
