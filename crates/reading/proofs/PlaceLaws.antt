-- Where readers stop: the laws of `IsLocal` and `IsViable`.
use Rattle.std.proofs.Common.{◌≡◌, inl, inr, ℕ, Bool, true, false, cond, eqb, List, [], ◌∷◌, ◌++◌, Some, None, refl, sym, ap, subst, ◌∙◌, append_assoc}
use Rattle.std.proofs.lemmas.Bool.{eqb-true}
use Rattle.std.proofs.lemmas.List.{append-nil, append_cancel_right}
use Rattle.reading.specs.Readers.{Read, Reader, ◌>>=◌, give, follow, mapped, choice, optional, strip, one_of, next_is, after, between}
use Rattle.reading.specs.Grammars.{Grammar, Given, Fixed, OneOf, Seq, Mapped, Either, Optional, After, Between}
use Rattle.reading.specs.Spelling.{Spells}
use Rattle.reading.specs.Places.{SameNext, SeesNext, IsLocal, GoesOnFrom, IsViable}
use Rattle.reading.proofs.SpellLaws.{ok, stop, bind_ok, Stopped, at_first, at_second, bind_err, same_answer, strip_spells, strip_again, one_of_spells, to_optional}

-- ---- tools

-- the same byte comes next behind a text that both begin with
pub same_behind : (text rest other : List ℕ) → SameNext rest other → SameNext (text ++ rest) (text ++ other)
same_behind [] rest other s = s
same_behind (c ∷ text) rest other s = (c, text ++ rest, text ++ other, refl, refl)

-- ---- what gives without reading

pub give_local : {A : Type 0} (x : A) → IsLocal (give x)
give_local {A = A} x = record {
  front = λ bytes y rest e. ([], (same_answer x y bytes rest e).1);
  stopped = λ bytes left e. absurd cc;
  ok = λ text rest other y s e.
      let same = same_answer x y (text ++ rest) rest e in
      let none : text ≡ [] = append_cancel_right text [] rest same.1 in
      rw (same.0, none) refl;
  err = λ text rest other s e. absurd cc;
}

pub give_viable : {A : Type 0} (x : A) → IsViable (give x) (Given x)
give_viable x = record { viable = λ bytes left e. absurd cc }

-- ---- a fixed text

-- a front of the word was read
pub record StopsIn (word bytes left : List ℕ) : Type 0 where
  pub text : List ℕ
  pub more : List ℕ
  pub front : word ≡ text ++ more
  pub parts : bytes ≡ text ++ left

strip_stops_by : (wanted byte : ℕ) (word bytes left : List ℕ) (t : Bool) → eqb byte wanted ≡ t → (strip word bytes ≡ stop left → StopsIn word bytes left)
    → cond t (strip word bytes) (stop (byte ∷ bytes)) ≡ stop left → StopsIn (wanted ∷ word) (byte ∷ bytes) left
strip_stops_by wanted byte word bytes left true test later e =
    let s = later e in
    record { text = wanted ∷ s.text; more = s.more; front = ap (λ (w : List ℕ). wanted ∷ w) s.front; parts = rw (eqb-true byte wanted test) (ap (λ (b : List ℕ). wanted ∷ b) s.parts) }
strip_stops_by wanted byte word bytes left false test later e =
    let same : byte ∷ bytes ≡ left = cc in
    record { text = []; more = wanted ∷ word; front = refl; parts = same }

strip_stops : (word bytes left : List ℕ) → strip word bytes ≡ stop left → StopsIn word bytes left
unfolding strip
strip_stops [] bytes left e = absurd cc
strip_stops (wanted ∷ word) [] left e =
    let same : [] ≡ left = cc in
    record { text = []; more = wanted ∷ word; front = refl; parts = same }
strip_stops (wanted ∷ word) (byte ∷ bytes) left e = strip_stops_by wanted byte word bytes left (eqb byte wanted) refl (strip_stops word bytes left) e

pub no_end : (text : List ℕ) (c : ℕ) → text ++ c ∷ [] ≡ [] → ⊥
no_end [] c e = absurd cc
no_end (t ∷ text) c e = absurd cc

-- the text behind the byte where it stopped isn't what is left
not_less : (word later : List ℕ) (c : ℕ) → strip word later ≡ stop (c ∷ later) → ⊥
not_less word later c e =
    let s = strip_stops word later (c ∷ later) e in
    let longer : (s.text ++ c ∷ []) ++ later ≡ [] ++ later = append_assoc s.text (c ∷ []) later ∙ sym s.parts in
    let none : s.text ++ c ∷ [] ≡ [] = append_cancel_right (s.text ++ c ∷ []) [] later longer in
    no_end s.text c none

strip_local_by : (wanted c : ℕ) (word later more : List ℕ) (t : Bool) → eqb c wanted ≡ t → cond t (strip word later) (stop (c ∷ later)) ≡ stop (c ∷ later)
    → cond t (strip word more) (stop (c ∷ more)) ≡ stop (c ∷ more)
strip_local_by wanted c word later more true test e = absurd (not_less word later c e)
strip_local_by wanted c word later more false test e = refl

strip_within : (wanted b : ℕ) (word text rest other : List ℕ) (t : Bool) → eqb b wanted ≡ t → (strip word (text ++ rest) ≡ stop rest → strip word (text ++ other) ≡ stop other)
    → cond t (strip word (text ++ rest)) (stop (b ∷ (text ++ rest))) ≡ stop rest → cond t (strip word (text ++ other)) (stop (b ∷ (text ++ other))) ≡ stop other
strip_within wanted b word text rest other true test later e = later e
strip_within wanted b word text rest other false test later e =
    let same : (b ∷ text) ++ rest ≡ [] ++ rest = cc in
    let none : b ∷ text ≡ [] = append_cancel_right (b ∷ text) [] rest same in
    absurd cc

strip_err : (word text rest other : List ℕ) → SameNext rest other → strip word (text ++ rest) ≡ stop rest → strip word (text ++ other) ≡ stop other
unfolding strip
strip_err [] text rest other s e = absurd cc
strip_err (wanted ∷ word) [] rest other s e =
    let here : strip (wanted ∷ word) (s.0 ∷ s.1) ≡ stop (s.0 ∷ s.1) = subst (λ (r : List ℕ). strip (wanted ∷ word) r ≡ stop r) s.3 e in
    subst (λ (r : List ℕ). strip (wanted ∷ word) r ≡ stop r) (sym s.4) (strip_local_by wanted s.0 word s.1 s.2 (eqb s.0 wanted) refl here)
strip_err (wanted ∷ word) (b ∷ text) rest other s e = strip_within wanted b word text rest other (eqb b wanted) refl (strip_err word text rest other s) e

pub strip_local : (word : List ℕ) → IsLocal (strip word)
strip_local word = record {
  front = λ bytes x rest e.
      let t = (strip_spells word).takes bytes x rest e in
      (t.0, t.2);
  stopped = λ bytes left e.
      let s = strip_stops word bytes left e in
      (s.text, s.parts);
  ok = λ text rest other x s e.
      let t = (strip_spells word).takes (text ++ rest) x rest e in
      let same : text ≡ word = append_cancel_right text t.0 rest t.2 ∙ t.1 in
      rw same (strip_again word other);
  err = λ text rest other s e. strip_err word text rest other s e;
}

pub strip_viable : (word : List ℕ) → IsViable (strip word) (Fixed word)
strip_viable word = record {
  viable = λ bytes left e.
      let s = strip_stops word bytes left e in
      (s.text, record { more = s.more; value = tt; is = sym s.front }, s.parts);
}

-- ---- one byte

one_stops_by : (test : ℕ → Bool) (b : ℕ) (bytes left : List ℕ) (t : Bool) → test b ≡ t → cond t (ok (b, bytes)) (stop (b ∷ bytes)) ≡ stop left → (b ∷ bytes ≡ left) × (test b ≡ false)
one_stops_by test b bytes left true is e = absurd cc
one_stops_by test b bytes left false is e = (cc, is)

one_stops : (test : ℕ → Bool) (b : ℕ) (bytes left : List ℕ) → one_of test (b ∷ bytes) ≡ stop left → (b ∷ bytes ≡ left) × (test b ≡ false)
unfolding one_of
one_stops test b bytes left e = one_stops_by test b bytes left (test b) refl e

one_stopped : (test : ℕ → Bool) (bytes left : List ℕ) → one_of test bytes ≡ stop left → bytes ≡ left
unfolding one_of
one_stopped test [] left e = cc
one_stopped test (b ∷ bytes) left e = (one_stops test b bytes left e).0

one_refuses : (test : ℕ → Bool) (b : ℕ) (bytes : List ℕ) → test b ≡ false → one_of test (b ∷ bytes) ≡ stop (b ∷ bytes)
unfolding one_of
one_refuses test b bytes is = rw is refl

one_err : (test : ℕ → Bool) (text rest other : List ℕ) → SameNext rest other → one_of test (text ++ rest) ≡ stop rest → one_of test (text ++ other) ≡ stop other
one_err test text rest other s e =
    let none : text ≡ [] = append_cancel_right text [] rest (one_stopped test (text ++ rest) rest e) in
    let here : one_of test (s.0 ∷ s.1) ≡ stop (s.0 ∷ s.1) = subst (λ (r : List ℕ). one_of test r ≡ stop r) s.3 (subst (λ (t : List ℕ). one_of test (t ++ rest) ≡ stop rest) none e) in
    rw (none, s.4) (one_refuses test s.0 s.2 (one_stops test s.0 s.1 (s.0 ∷ s.1) here).1)

pub one_of_local : (test : ℕ → Bool) → IsLocal (one_of test)
one_of_local test = record {
  front = λ bytes x rest e.
      let t = (one_of_spells test).takes bytes x rest e in
      (t.0, t.2);
  stopped = λ bytes left e. ([], one_stopped test bytes left e);
  ok = λ text rest other x s e.
      let t = (one_of_spells test).takes (text ++ rest) x rest e in
      let same : text ≡ t.0 = append_cancel_right text t.0 rest t.2 in
      rw same ((one_of_spells test).again t.0 x other t.1 tt);
  err = λ text rest other s e. one_err test text rest other s e;
}

-- a byte that passes the test is a text that goes on from nothing
pub one_of_viable : (test : ℕ → Bool) (byte : ℕ) → test byte ≡ true → IsViable (one_of test) (OneOf test)
one_of_viable test byte is = record {
  viable = λ bytes left e. ([], record { more = byte ∷ []; value = byte; is = (refl, is) }, one_stopped test bytes left e);
}

-- ---- one after the other

follow_stopped : {A B : Type 0} (f : Reader A) (g : A → Reader B) (bytes left : List ℕ) → IsLocal f → ((x : A) → IsLocal (g x)) → Stopped (f bytes) (λ (x : A × List ℕ). g x.0 x.1) left → (text : List ℕ) × (bytes ≡ text ++ left)
follow_stopped f g bytes left p q (at_first e) = p.stopped bytes left e
follow_stopped f g bytes left p q (at_second x e h) =
    let one = p.front bytes x.0 x.1 e in
    let two = (q x.0).stopped x.1 left h in
    (one.0 ++ two.0, one.1 ∙ ap (λ (s : List ℕ). one.0 ++ s) two.1 ∙ sym (append_assoc one.0 two.0 left))

-- the first reader of two, and where the second begins
pub moved : {A : Type 0} (f : Reader A) (x : A) (text one two rest other mid : List ℕ) → IsLocal f → SameNext rest other → f (text ++ rest) ≡ ok (x, mid) → text ++ rest ≡ one ++ mid → mid ≡ two ++ rest
    → (text ≡ one ++ two) × (f (text ++ other) ≡ ok (x, two ++ other))
moved f x text one two rest other mid p s e first second =
    let whole : text ++ rest ≡ (one ++ two) ++ rest = first ∙ ap (λ (m : List ℕ). one ++ m) second ∙ sym (append_assoc one two rest) in
    let parts : text ≡ one ++ two = append_cancel_right text (one ++ two) rest whole in
    let here : f (one ++ (two ++ rest)) ≡ ok (x, two ++ rest) =
    subst (λ (m : List ℕ). f (one ++ m) ≡ ok (x, m)) second (subst (λ (w : List ℕ). f w ≡ ok (x, mid)) first e) in
    let there = p.ok one (two ++ rest) (two ++ other) x (same_behind two rest other s) here in
    (parts, ap f (ap (λ (t : List ℕ). t ++ other) parts ∙ append_assoc one two other) ∙ there)

follow_ok : {A B : Type 0} (f : Reader A) (g : A → Reader B) (text rest other : List ℕ) (y : B) → IsLocal f → ((x : A) → IsLocal (g x)) → SameNext rest other
    → follow f g (text ++ rest) ≡ ok (y, rest) → follow f g (text ++ other) ≡ ok (y, other)
follow_ok {A = A} {B = B} f g text rest other y p q s e =
    let a = bind_ok (f (text ++ rest)) (λ (x : A × List ℕ). g x.0 x.1) (y, rest) e in
    let one = p.front (text ++ rest) a.0.0 a.0.1 a.1 in
    let two = (q a.0.0).front a.0.1 y rest a.2 in
    let m = moved f a.0.0 text one.0 two.0 rest other a.0.1 p s a.1 one.1 two.1 in
    let second : g a.0.0 (two.0 ++ rest) ≡ ok (y, rest) = subst (λ (b : List ℕ). g a.0.0 b ≡ ok (y, rest)) two.1 a.2 in
    ap (λ (r : Read A). r >>= λ (x : A × List ℕ). g x.0 x.1) m.1 ∙ (q a.0.0).ok two.0 rest other y s second

follow_err : {A B : Type 0} (f : Reader A) (g : A → Reader B) (text rest other : List ℕ) → IsLocal f → ((x : A) → IsLocal (g x)) → SameNext rest other
    → Stopped (f (text ++ rest)) (λ (x : A × List ℕ). g x.0 x.1) rest → follow f g (text ++ other) ≡ stop other
follow_err {A = A} f g text rest other p q s (at_first e) = ap (λ (r : Read A). r >>= λ (x : A × List ℕ). g x.0 x.1) (p.err text rest other s e)
follow_err {A = A} f g text rest other p q s (at_second x e h) =
    let one = p.front (text ++ rest) x.0 x.1 e in
    let two = (q x.0).stopped x.1 rest h in
    let m = moved f x.0 text one.0 two.0 rest other x.1 p s e one.1 two.1 in
    let second : g x.0 (two.0 ++ rest) ≡ stop rest = subst (λ (b : List ℕ). g x.0 b ≡ stop rest) two.1 h in
    ap (λ (r : Read A). r >>= λ (v : A × List ℕ). g v.0 v.1) m.1 ∙ (q x.0).err two.0 rest other s second

pub follow_local : {A B : Type 0} {f : Reader A} {g : A → Reader B} → IsLocal f → ((x : A) → IsLocal (g x)) → IsLocal (follow f g)
follow_local {A = A} {f = f} {g = g} p q = record {
  front = λ bytes y rest e.
      let a = bind_ok (f bytes) (λ (x : A × List ℕ). g x.0 x.1) (y, rest) e in
      let one = p.front bytes a.0.0 a.0.1 a.1 in
      let two = (q a.0.0).front a.0.1 y rest a.2 in
      (one.0 ++ two.0, one.1 ∙ ap (λ (s : List ℕ). one.0 ++ s) two.1 ∙ sym (append_assoc one.0 two.0 rest));
  stopped = λ bytes left e. follow_stopped f g bytes left p q (bind_err (f bytes) (λ (x : A × List ℕ). g x.0 x.1) left e);
  ok = λ text rest other y s e. follow_ok f g text rest other y p q s e;
  err = λ text rest other s e. follow_err f g text rest other p q s (bind_err (f (text ++ rest)) (λ (x : A × List ℕ). g x.0 x.1) rest e);
}

-- the first goes on, and the second from nothing; or the first is whole, and the second goes on
follow_viable_by : {A B : Type 0} (f : Reader A) (g : A → Reader B) (R : Grammar A) (S : A → Grammar B) (Ends : List ℕ → Type 0) (bytes left : List ℕ) → Spells f R Ends → IsViable f R
    → ((x : A) → IsViable (g x) (S x)) → ((x : A) → GoesOnFrom (S x) []) → Stopped (f bytes) (λ (x : A × List ℕ). g x.0 x.1) left
    → (text : List ℕ) × GoesOnFrom (Seq R S) text × (bytes ≡ text ++ left)
follow_viable_by f g R S Ends bytes left spells p q some (at_first e) =
    let v = p.viable bytes left e in
    let next = some v.1.value in
    (v.0, record { more = v.1.more ++ next.more; value = next.value; is = (v.1.value, v.0 ++ v.1.more, next.more, v.1.is, next.is, sym (append_assoc v.0 v.1.more next.more)) }, v.2)
follow_viable_by f g R S Ends bytes left spells p q some (at_second x e h) =
    let t = spells.takes bytes x.0 x.1 e in
    let v = (q x.0).viable x.1 left h in (
      t.0 ++ v.0,
      record { more = v.1.more; value = v.1.value; is = (x.0, t.0, v.0 ++ v.1.more, t.1, v.1.is, append_assoc t.0 v.0 v.1.more) },
      t.2 ∙ ap (λ (s : List ℕ). t.0 ++ s) v.2 ∙ sym (append_assoc t.0 v.0 left),
    )

pub follow_viable : {A B : Type 0} {f : Reader A} {g : A → Reader B} {R : Grammar A} {S : A → Grammar B} {Ends : List ℕ → Type 0} → Spells f R Ends → IsViable f R
    → ((x : A) → IsViable (g x) (S x)) → ((x : A) → GoesOnFrom (S x) []) → IsViable (follow f g) (Seq R S)
follow_viable {A = A} {f = f} {g = g} {R = R} {S = S} {Ends = Ends} spells p q some = record {
  viable = λ bytes left e. follow_viable_by f g R S Ends bytes left spells p q some (bind_err (f bytes) (λ (x : A × List ℕ). g x.0 x.1) left e);
}

-- ---- the byte where a reader stops

-- no text of the grammar begins with what was read and the byte behind it
pub no_further : {A : Type 0} {f : Reader A} {R : Grammar A} {Ends : List ℕ → Type 0} → Spells f R Ends → IsLocal f
    → (text later more rest : List ℕ) (next : ℕ) (x : A) → f (text ++ next ∷ later) ≡ stop (next ∷ later) → R (text ++ next ∷ more) x → Ends rest → ⊥
no_further {A = A} {f = f} spells local text later more rest next x e r ends =
    let read : f ((text ++ next ∷ more) ++ rest) ≡ ok (x, rest) = spells.again (text ++ next ∷ more) x rest r ends in
    let stopped : f (text ++ next ∷ (more ++ rest)) ≡ stop (next ∷ (more ++ rest)) =
    local.err text (next ∷ later) (next ∷ (more ++ rest)) (next, later, more ++ rest, refl, refl) e in
    let clash : ok (x, rest) ≡ stop (next ∷ (more ++ rest)) = sym read ∙ ap f (append_assoc text (next ∷ more) rest) ∙ stopped in
    absurd cc

-- ---- other ways to build readers

mapped_viable_by : {A B : Type 0} (view : A → B) (f : Reader A) (R : Grammar A) (bytes left : List ℕ) → IsViable f R → Stopped (f bytes) (λ (x : A × List ℕ). give (view x.0) x.1) left
    → (text : List ℕ) × GoesOnFrom (Mapped view R) text × (bytes ≡ text ++ left)
mapped_viable_by view f R bytes left p (at_first e) =
    let v = p.viable bytes left e in
    (v.0, record { more = v.1.more; value = view v.1.value; is = (v.1.value, v.1.is, refl) }, v.2)
mapped_viable_by view f R bytes left p (at_second x e h) = absurd cc

pub mapped_viable : {A B : Type 0} (view : A → B) {f : Reader A} {R : Grammar A} → IsViable f R → IsViable (mapped view f) (Mapped view R)
mapped_viable {A = A} view {f = f} {R = R} p = record {
  viable = λ bytes left e. mapped_viable_by view f R bytes left p (bind_err (f bytes) (λ (x : A × List ℕ). give (view x.0) x.1) left e);
}

pub mapped_local : {A B : Type 0} (view : A → B) {f : Reader A} → IsLocal f → IsLocal (mapped view f)
mapped_local view p = follow_local p (λ x. give_local (view x))

pub after_local : {A : Type 0} (word : List ℕ) {f : Reader A} → IsLocal f → IsLocal (after word f)
unfolding after
after_local word p = follow_local (strip_local word) (λ u. p)

pub between_local : {A : Type 0} (open_ close : List ℕ) {f : Reader A} → IsLocal f → IsLocal (between open_ f close)
unfolding between
between_local open_ close p = after_local open_ (follow_local p (λ x. follow_local (strip_local close) (λ u. give_local x)))

choice_front : {A : Type 0} (f g : Reader A) (bytes : List ℕ) (x : A) (rest : List ℕ) → IsLocal f → IsLocal g → (b : Bool) → cond b (f bytes) (g bytes) ≡ ok (x, rest) → (text : List ℕ) × (bytes ≡ text ++ rest)
choice_front f g bytes x rest p q true e = p.front bytes x rest e
choice_front f g bytes x rest p q false e = q.front bytes x rest e

choice_stopped : {A : Type 0} (f g : Reader A) (bytes left : List ℕ) → IsLocal f → IsLocal g → (b : Bool) → cond b (f bytes) (g bytes) ≡ stop left → (text : List ℕ) × (bytes ≡ text ++ left)
choice_stopped f g bytes left p q true e = p.stopped bytes left e
choice_stopped f g bytes left p q false e = q.stopped bytes left e

choice_ok : {A : Type 0} (f g : Reader A) (text rest other : List ℕ) (x : A) → IsLocal f → IsLocal g → SameNext rest other → (b : Bool) → cond b (f (text ++ rest)) (g (text ++ rest)) ≡ ok (x, rest)
    → cond b (f (text ++ other)) (g (text ++ other)) ≡ ok (x, other)
choice_ok f g text rest other x p q s true e = p.ok text rest other x s e
choice_ok f g text rest other x p q s false e = q.ok text rest other x s e

choice_err : {A : Type 0} (f g : Reader A) (text rest other : List ℕ) → IsLocal f → IsLocal g → SameNext rest other → (b : Bool) → cond b (f (text ++ rest)) (g (text ++ rest)) ≡ stop rest
    → cond b (f (text ++ other)) (g (text ++ other)) ≡ stop other
choice_err f g text rest other p q s true e = p.err text rest other s e
choice_err f g text rest other p q s false e = q.err text rest other s e

choice_goes_on : {A : Type 0} (f g : Reader A) (R S : Grammar A) (bytes left : List ℕ) → IsViable f (Either R S) → IsViable g (Either R S) → (b : Bool) → cond b (f bytes) (g bytes) ≡ stop left
    → (text : List ℕ) × GoesOnFrom (Either R S) text × (bytes ≡ text ++ left)
choice_goes_on f g R S bytes left p q true e = p.viable bytes left e
choice_goes_on f g R S bytes left p q false e = q.viable bytes left e

pub choice_local : {A : Type 0} {test : List ℕ → Bool} {f g : Reader A} → SeesNext test → IsLocal f → IsLocal g → IsLocal (choice test f g)
choice_local {A = A} {test = test} {f = f} {g = g} t p q = record {
  front = λ bytes x rest e. choice_front f g bytes x rest p q (test bytes) e;
  stopped = λ bytes left e. choice_stopped f g bytes left p q (test bytes) e;
  ok = λ text rest other x s e.
      ap (λ (b : Bool). cond b (f (text ++ other)) (g (text ++ other))) (sym (t.sees (text ++ rest) (text ++ other) (same_behind text rest other s)))
      ∙ choice_ok f g text rest other x p q s (test (text ++ rest)) e;
  err = λ text rest other s e.
      ap (λ (b : Bool). cond b (f (text ++ other)) (g (text ++ other))) (sym (t.sees (text ++ rest) (text ++ other) (same_behind text rest other s)))
      ∙ choice_err f g text rest other p q s (test (text ++ rest)) e;
}

pub viable_as : {A : Type 0} {f : Reader A} {R S : Grammar A} → IsViable f R → ((text : List ℕ) (x : A) → R text x → S text x) → IsViable f S
viable_as p to = record {
  viable = λ bytes left e.
      let v = p.viable bytes left e in
      (v.0, record { more = v.1.more; value = v.1.value; is = to (v.0 ++ v.1.more) v.1.value v.1.is }, v.2);
}

pub choice_viable : {A : Type 0} (test : List ℕ → Bool) {f g : Reader A} {R S : Grammar A} → IsViable f R → IsViable g S → IsViable (choice test f g) (Either R S)
choice_viable {A = A} test {f = f} {g = g} {R = R} {S = S} p q = record {
  viable = λ bytes left e.
      choice_goes_on f g R S bytes left (viable_as p (λ text x r. inl r)) (viable_as q (λ text x s. inr s)) (test bytes) e;
}

-- the next byte alone is seen by a test of it
pub next_is_sees : (test : ℕ → Bool) → SeesNext (next_is test)
next_is_sees test = record { sees = λ rest other s. rw (s.3, s.4) refl }

-- ---- nothing, or what a reader reads

pub optional_local : {A : Type 0} {test : List ℕ → Bool} {f : Reader A} → SeesNext test → IsLocal f → IsLocal (optional test f)
optional_local t p = choice_local t (mapped_local Some p) (give_local None)

pub optional_viable : {A : Type 0} (test : List ℕ → Bool) {f : Reader A} {R : Grammar A} → IsViable f R → IsViable (optional test f) (Optional R)
optional_viable {A = A} test {f = f} {R = R} p = viable_as (choice_viable test (mapped_viable Some p) (give_viable None)) (to_optional R)

-- ---- behind a text, and between two texts

pub after_viable : {A : Type 0} (word : List ℕ) {f : Reader A} {R : Grammar A} → IsViable f R → GoesOnFrom R [] → IsViable (after word f) (After word R)
unfolding after
after_viable word p some =
    viable_as (follow_viable (strip_spells word) (strip_viable word) (λ u. p) (λ u. some))
    (λ text x r. (r.2, r.4, r.5 ∙ ap (λ (s : List ℕ). s ++ r.2) r.3))

-- the text that closes, and the value that is given then
closes_viable : {A : Type 0} (close : List ℕ) (x : A) → IsViable (follow (strip close) (λ _. give x)) (Seq (Fixed close) (λ _. Given x))
closes_viable close x = follow_viable (strip_spells close) (strip_viable close) (λ u. give_viable x) (λ u. record { more = []; value = x; is = (refl, refl) })

closes_some : {A : Type 0} (close : List ℕ) (x : A) → GoesOnFrom (Seq (Fixed close) (λ _. Given x)) []
closes_some close x = record { more = close; value = x; is = (tt, close, [], refl, (refl, refl), sym (append-nil close)) }

-- so it is in the grammar of what is closed
closed_as : {A : Type 0} (close : List ℕ) (R : Grammar A) (text : List ℕ) (x : A) → Seq R (λ y. Seq (Fixed close) (λ _. Given y)) text x → (inside : List ℕ) × R inside x × (text ≡ inside ++ close)
closed_as {A = A} close R text x r =
    let last = r.4 in
    let whole : last.1 ++ last.2 ≡ close = ap (λ (s : List ℕ). last.1 ++ s) last.4.0 ∙ append-nil last.1 ∙ last.3 in
    (r.1, subst (λ (y : A). R r.1 y) (sym last.4.1) r.3, r.5 ∙ ap (λ (s : List ℕ). r.1 ++ s) (last.5 ∙ whole))

pub between_viable : {A : Type 0} (open_ close : List ℕ) {f : Reader A} {R : Grammar A} {Ends : List ℕ → Type 0} → Spells f R Ends → IsViable f R → GoesOnFrom R [] → IsViable (between open_ f close) (Between open_ R close)
unfolding between
between_viable open_ close {R = R} spells p some =
    viable_as
    (after_viable open_ (viable_as (follow_viable spells p (closes_viable close) (closes_some close)) (closed_as close R))
    (record { more = some.more ++ close; value = some.value; is = (some.more, some.is, refl) }))
    (λ text x r. (r.1.0, r.1.1, r.2 ∙ ap (λ (s : List ℕ). open_ ++ s) r.1.2 ∙ sym (append_assoc open_ r.1.0 close)))
