-- Where turns stop, and what is read as often as a test of the next bytes says.
use Rattle.std.proofs.Common.{◌≡◌, ℕ, zero, suc, ◌<◌, Bool, true, false, List, [], ◌∷◌, ◌++◌, length, refl, sym, ap, subst, ◌∙◌, append_assoc, arith}
use Rattle.std.specs.List.{fold}
use Rattle.std.proofs.lemmas.List.{append-nil, append_cancel_right}
use Rattle.reading.specs.Readers.{Read, Reader, ◌>>=◌, give, turns, repeat, many, joined}
use Rattle.reading.specs.Grammars.{Grammar, Each, Joined}
use Rattle.reading.specs.Spelling.{Spells, IsTestOf}
use Rattle.reading.specs.Places.{SameNext, SeesNext, IsLocal, GoesOnFrom, IsViable}
use Rattle.reading.proofs.SpellLaws.{ok, stop, bind_ok, Stopped, at_first, at_second, bind_err, same_answer}
use Rattle.reading.proofs.Turns.{turn_once, turn_none, turns_stop_back}
use Rattle.reading.proofs.ManyLaws.{push_one, Gathered, item_shortens, all_pushed, all_joined}
use Rattle.reading.proofs.PlaceLaws.{same_behind, moved, mapped_local, viable_as}

-- ---- turns whose test sees the next byte, and of which each is local and takes a byte

pub record AreLocal {S : Type 0} (goes : S → List ℕ → Bool) (turn : S → Reader S) : Type 0 where
  pub sees : (s : S) → SeesNext (goes s)
  pub local : (s : S) → IsLocal (turn s)
  pub shorter : (s later : S) (x y : List ℕ) → turn s x ≡ ok (later, y) → length y < length x

-- ---- what is left is an end of the bytes

-- an end of an end is an end
front_on : (bytes after rest : List ℕ) → ((text : List ℕ) × (bytes ≡ text ++ after)) → ((text : List ℕ) × (after ≡ text ++ rest)) → (text : List ℕ) × (bytes ≡ text ++ rest)
front_on bytes after rest one two = (one.0 ++ two.0, one.1 ∙ ap (λ (b : List ℕ). one.0 ++ b) two.1 ∙ sym (append_assoc one.0 two.0 rest))

front_by : {S : Type 0} (goes : S → List ℕ → Bool) (turn : S → Reader S) (fuel : ℕ) (s end_ : S) (bytes rest : List ℕ) (t : Bool) → goes s bytes ≡ t → AreLocal goes turn
    → ((s : S) (bytes : List ℕ) → turns goes turn fuel s bytes ≡ ok (end_, rest) → (text : List ℕ) × (bytes ≡ text ++ rest))
    → turns goes turn (suc fuel) s bytes ≡ ok (end_, rest) → (text : List ℕ) × (bytes ≡ text ++ rest)
front_by {S = S} goes turn fuel s end_ bytes rest true g p later e =
    let here = sym (turn_once goes turn fuel s bytes g) ∙ e in
    let a = bind_ok (turn s bytes) (λ (x : S × List ℕ). turns goes turn fuel x.0 x.1) (end_, rest) here in
    let one = (p.local s).front bytes a.0.0 a.0.1 a.1 in
    let two = later a.0.0 a.0.1 a.2 in
    front_on bytes a.0.1 rest one two
front_by goes turn fuel s end_ bytes rest false g p later e =
    let here = sym (turn_none goes turn fuel s bytes g) ∙ e in
    ([], (same_answer {E = List ℕ} s end_ bytes rest here).1)

turns_front : {S : Type 0} (goes : S → List ℕ → Bool) (turn : S → Reader S) (end_ : S) (rest : List ℕ) → AreLocal goes turn → (fuel : ℕ) (s : S) (bytes : List ℕ)
    → turns goes turn fuel s bytes ≡ ok (end_, rest) → (text : List ℕ) × (bytes ≡ text ++ rest)
unfolding turns
turns_front goes turn end_ rest p zero s bytes e = ([], (same_answer {E = List ℕ} s end_ bytes rest e).1)
turns_front goes turn end_ rest p (suc fuel) s bytes e = front_by goes turn fuel s end_ bytes rest (goes s bytes) refl p (turns_front goes turn end_ rest p fuel) e

turns_stopped : {S : Type 0} (goes : S → List ℕ → Bool) (turn : S → Reader S) → AreLocal goes turn → (fuel : ℕ) (s : S) (bytes left : List ℕ) → turns goes turn fuel s bytes ≡ stop left → (text : List ℕ) × (bytes ≡ text ++ left)
turns_stopped {S = S} goes turn p fuel s bytes left e =
    turns_stop_back goes turn (λ (s : S) (b : List ℕ). (text : List ℕ) × (b ≡ text ++ left)) left
    (λ s x g stopped. (p.local s).stopped x left stopped)
    (λ s later x y g turned there.
    let one = (p.local s).front x later y turned in
    (one.0 ++ there.0, one.1 ∙ ap (λ (b : List ℕ). one.0 ++ b) there.1 ∙ sym (append_assoc one.0 there.0 left)))
    fuel s bytes e

-- ---- with other bytes behind the next one

-- enough turns, whatever their number
ends_by : {S : Type 0} (goes : S → List ℕ → Bool) (turn : S → Reader S) (fuel : ℕ) (s : S) (bytes : List ℕ) → goes s bytes ≡ false → length bytes < fuel → turns goes turn fuel s bytes ≡ ok (s, bytes)
ends_by goes turn zero s bytes g enough = absurd (omega (arith, enough))
ends_by goes turn (suc fuel) s bytes g enough = turn_none goes turn fuel s bytes g

-- the second turn of the other bytes
goes_by : {S : Type 0} (goes : S → List ℕ → Bool) (turn : S → Reader S) (fuel : ℕ) (s later : S) (bytes after : List ℕ) (r : Read S) → goes s bytes ≡ true → length bytes < fuel → AreLocal goes turn
    → turn s bytes ≡ ok (later, after) → ((fuel : ℕ) → length after < fuel → turns goes turn fuel later after ≡ r) → turns goes turn fuel s bytes ≡ r
goes_by goes turn zero s later bytes after r g enough p e rest = absurd (omega (arith, enough))
goes_by {S = S} goes turn (suc fuel) s later bytes after r g enough p e rest =
    let less = p.shorter s later bytes after e in
    turn_once goes turn fuel s bytes g ∙ ap (λ (x : Read S). x >>= λ (v : S × List ℕ). turns goes turn fuel v.0 v.1) e ∙ rest fuel (omega (arith, less, enough))

pub stops_by : {S : Type 0} (goes : S → List ℕ → Bool) (turn : S → Reader S) (fuel : ℕ) (s : S) (bytes left : List ℕ) → goes s bytes ≡ true → length bytes < fuel → turn s bytes ≡ stop left → turns goes turn fuel s bytes ≡ stop left
stops_by goes turn zero s bytes left g enough e = absurd (omega (arith, enough))
stops_by {S = S} goes turn (suc fuel) s bytes left g enough e =
    turn_once goes turn fuel s bytes g ∙ ap (λ (x : Read S). x >>= λ (v : S × List ℕ). turns goes turn fuel v.0 v.1) e

-- the test says the same of the other bytes
says : {S : Type 0} (goes : S → List ℕ → Bool) (turn : S → Reader S) (s : S) (text rest other : List ℕ) (t : Bool) → AreLocal goes turn → SameNext rest other → goes s (text ++ rest) ≡ t → goes s (text ++ other) ≡ t
says goes turn s text rest other t p n g = sym ((p.sees s).sees (text ++ rest) (text ++ other) (same_behind text rest other n)) ∙ g

ok_by : {S : Type 0} (goes : S → List ℕ → Bool) (turn : S → Reader S) (fuel again : ℕ) (s end_ : S) (text rest other : List ℕ) (t : Bool) → goes s (text ++ rest) ≡ t → AreLocal goes turn → SameNext rest other
    → ((s : S) (text : List ℕ) → length (text ++ rest) < fuel → turns goes turn fuel s (text ++ rest) ≡ ok (end_, rest) → (again : ℕ) → length (text ++ other) < again → turns goes turn again s (text ++ other) ≡ ok (end_, other))
    → length (text ++ rest) < suc fuel → length (text ++ other) < again → turns goes turn (suc fuel) s (text ++ rest) ≡ ok (end_, rest) → turns goes turn again s (text ++ other) ≡ ok (end_, other)
ok_by {S = S} goes turn fuel again s end_ text rest other true g p n later enough much e =
    let here = sym (turn_once goes turn fuel s (text ++ rest) g) ∙ e in
    let a = bind_ok (turn s (text ++ rest)) (λ (x : S × List ℕ). turns goes turn fuel x.0 x.1) (end_, rest) here in
    let one = (p.local s).front (text ++ rest) a.0.0 a.0.1 a.1 in
    let two = turns_front goes turn end_ rest p fuel a.0.0 a.0.1 a.2 in
    let m = moved (turn s) a.0.0 text one.0 two.0 rest other a.0.1 (p.local s) n a.1 one.1 two.1 in
    let less = p.shorter s a.0.0 (text ++ rest) a.0.1 a.1 in
    let size : length a.0.1 ≡ length (two.0 ++ rest) = ap (λ (b : List ℕ). length b) two.1 in
    let then_ : turns goes turn fuel a.0.0 (two.0 ++ rest) ≡ ok (end_, rest) = subst (λ (b : List ℕ). turns goes turn fuel a.0.0 b ≡ ok (end_, rest)) two.1 a.2 in
    goes_by goes turn again s a.0.0 (text ++ other) (two.0 ++ other) (ok (end_, other)) (says goes turn s text rest other true p n g) much p m.1
    (later a.0.0 two.0 (omega (arith, less, size, enough)) then_)
ok_by {S = S} goes turn fuel again s end_ text rest other false g p n later enough much e =
    let here = sym (turn_none goes turn fuel s (text ++ rest) g) ∙ e in
    let same = same_answer {E = List ℕ} s end_ (text ++ rest) rest here in
    let none : text ≡ [] = append_cancel_right text [] rest same.1 in
    let there = ends_by goes turn again s (text ++ other) (says goes turn s text rest other false p n g) much in
    there ∙ rw (same.0, none) refl

turns_ok : {S : Type 0} (goes : S → List ℕ → Bool) (turn : S → Reader S) (end_ : S) (rest other : List ℕ) → AreLocal goes turn → SameNext rest other → (fuel : ℕ) (s : S) (text : List ℕ)
    → length (text ++ rest) < fuel → turns goes turn fuel s (text ++ rest) ≡ ok (end_, rest) → (again : ℕ) → length (text ++ other) < again → turns goes turn again s (text ++ other) ≡ ok (end_, other)
turns_ok goes turn end_ rest other p n zero s text enough e again much = absurd (omega (arith, enough))
turns_ok goes turn end_ rest other p n (suc fuel) s text enough e again much =
    ok_by goes turn fuel again s end_ text rest other (goes s (text ++ rest)) refl p n (turns_ok goes turn end_ rest other p n fuel) enough much e

err_stopped : {S : Type 0} (goes : S → List ℕ → Bool) (turn : S → Reader S) (fuel again : ℕ) (s : S) (text rest other : List ℕ) → goes s (text ++ rest) ≡ true → AreLocal goes turn → SameNext rest other
    → ((s : S) (text : List ℕ) → length (text ++ rest) < fuel → turns goes turn fuel s (text ++ rest) ≡ stop rest → (again : ℕ) → length (text ++ other) < again → turns goes turn again s (text ++ other) ≡ stop other)
    → length (text ++ rest) < suc fuel → length (text ++ other) < again → Stopped (turn s (text ++ rest)) (λ (x : S × List ℕ). turns goes turn fuel x.0 x.1) rest → turns goes turn again s (text ++ other) ≡ stop other
err_stopped goes turn fuel again s text rest other g p n later enough much (at_first e) =
    stops_by goes turn again s (text ++ other) other (says goes turn s text rest other true p n g) much ((p.local s).err text rest other n e)
err_stopped {S = S} goes turn fuel again s text rest other g p n later enough much (at_second x e h) =
    let one = (p.local s).front (text ++ rest) x.0 x.1 e in
    let two = turns_stopped goes turn p fuel x.0 x.1 rest h in
    let m = moved (turn s) x.0 text one.0 two.0 rest other x.1 (p.local s) n e one.1 two.1 in
    let less = p.shorter s x.0 (text ++ rest) x.1 e in
    let size : length x.1 ≡ length (two.0 ++ rest) = ap (λ (b : List ℕ). length b) two.1 in
    let then_ : turns goes turn fuel x.0 (two.0 ++ rest) ≡ stop rest = subst (λ (b : List ℕ). turns goes turn fuel x.0 b ≡ stop rest) two.1 h in
    goes_by goes turn again s x.0 (text ++ other) (two.0 ++ other) (stop other) (says goes turn s text rest other true p n g) much p m.1
    (later x.0 two.0 (omega (arith, less, size, enough)) then_)

err_by : {S : Type 0} (goes : S → List ℕ → Bool) (turn : S → Reader S) (fuel again : ℕ) (s : S) (text rest other : List ℕ) (t : Bool) → goes s (text ++ rest) ≡ t → AreLocal goes turn → SameNext rest other
    → ((s : S) (text : List ℕ) → length (text ++ rest) < fuel → turns goes turn fuel s (text ++ rest) ≡ stop rest → (again : ℕ) → length (text ++ other) < again → turns goes turn again s (text ++ other) ≡ stop other)
    → length (text ++ rest) < suc fuel → length (text ++ other) < again → turns goes turn (suc fuel) s (text ++ rest) ≡ stop rest → turns goes turn again s (text ++ other) ≡ stop other
err_by {S = S} goes turn fuel again s text rest other true g p n later enough much e =
    err_stopped goes turn fuel again s text rest other g p n later enough much
    (bind_err (turn s (text ++ rest)) (λ (x : S × List ℕ). turns goes turn fuel x.0 x.1) rest (sym (turn_once goes turn fuel s (text ++ rest) g) ∙ e))
err_by goes turn fuel again s text rest other false g p n later enough much e =
    let clash : ok (s, text ++ rest) ≡ stop rest = sym (turn_none goes turn fuel s (text ++ rest) g) ∙ e in
    absurd cc

turns_err : {S : Type 0} (goes : S → List ℕ → Bool) (turn : S → Reader S) (rest other : List ℕ) → AreLocal goes turn → SameNext rest other → (fuel : ℕ) (s : S) (text : List ℕ)
    → length (text ++ rest) < fuel → turns goes turn fuel s (text ++ rest) ≡ stop rest → (again : ℕ) → length (text ++ other) < again → turns goes turn again s (text ++ other) ≡ stop other
turns_err goes turn rest other p n zero s text enough e again much = absurd (omega (arith, enough))
turns_err goes turn rest other p n (suc fuel) s text enough e again much =
    err_by goes turn fuel again s text rest other (goes s (text ++ rest)) refl p n (turns_err goes turn rest other p n fuel) enough much e

pub repeat_local : {S : Type 0} (goes : S → List ℕ → Bool) (turn : S → Reader S) (s : S) → AreLocal goes turn → IsLocal (repeat goes turn s)
unfolding repeat
repeat_local goes turn s p = record {
  front = λ bytes end_ rest e. turns_front goes turn end_ rest p (suc (length bytes)) s bytes e;
  stopped = λ bytes left e. turns_stopped goes turn p (suc (length bytes)) s bytes left e;
  ok = λ text rest other end_ n e. turns_ok goes turn end_ rest other p n (suc (length (text ++ rest))) s text (omega arith) e (suc (length (text ++ other))) (omega arith);
  err = λ text rest other n e. turns_err goes turn rest other p n (suc (length (text ++ rest))) s text (omega arith) e (suc (length (text ++ other))) (omega arith);
}

-- ---- items

pub gathered_local : {A S : Type 0} (push : S → A → S) (start : S) {test : List ℕ → Bool} {f : Reader A} {R : Grammar A} {Ends More : List ℕ → Type 0}
    → Spells f R Ends → IsTestOf test R Ends More → SeesNext test → IsLocal f → IsLocal (repeat (λ s bytes. test bytes) (push_one push f) start)
gathered_local {A = A} {S = S} push start {test = test} {f = f} {R = R} {Ends = Ends} {More = More} spells t sees p =
    repeat_local (λ (s : S) bytes. test bytes) (push_one push f) start (record {
      sees = λ s. record { sees = λ rest other n. sees.sees rest other n };
      local = λ s. mapped_local (push s) p;
      shorter = λ s later x y e. item_shortens push f R Ends More test s later x y spells t e;
    })

pub many_local : {A : Type 0} {test : List ℕ → Bool} {f : Reader A} {R : Grammar A} {Ends More : List ℕ → Type 0} → Spells f R Ends → IsTestOf test R Ends More → SeesNext test → IsLocal f → IsLocal (many test f)
unfolding many
many_local {A = A} spells t sees p = gathered_local (λ (l : List A) x. l ++ x ∷ []) [] spells t sees p

pub joined_local : {test : List ℕ → Bool} {f : Reader (List ℕ)} {R : Grammar (List ℕ)} {Ends More : List ℕ → Type 0} → Spells f R Ends → IsTestOf test R Ends More → SeesNext test → IsLocal f → IsLocal (joined test f)
unfolding joined
joined_local spells t sees p = gathered_local (λ (t : List ℕ) piece. t ++ piece) [] spells t sees p

-- an item goes on where it stopped
pub record Within {A S : Type 0} (push : S → A → S) (R : Grammar A) (left : List ℕ) (state : S) (bytes : List ℕ) : Type 0 where
  pub text : List ℕ
  pub goes_on : GoesOnFrom (Gathered push state R) text
  pub parts : bytes ≡ text ++ left

item_within : {A S : Type 0} (push : S → A → S) (f : Reader A) (R : Grammar A) (bytes left : List ℕ) (s : S) → IsViable f R → Stopped (f bytes) (λ (x : A × List ℕ). give (push s x.0) x.1) left → Within push R left s bytes
item_within push f R bytes left s p (at_first e) =
    let v = p.viable bytes left e in
    record { text = v.0; goes_on = record { more = v.1.more; value = push s v.1.value; is = (v.1.value ∷ [], (v.0 ++ v.1.more, [], v.1.is, refl, sym (append-nil (v.0 ++ v.1.more))), refl) }; parts = v.2 }
item_within push f R bytes left s p (at_second x e h) = absurd cc

item_before : {A S : Type 0} (push : S → A → S) (f : Reader A) (R : Grammar A) (Ends : List ℕ → Type 0) (left : List ℕ) (s later : S) (x y : List ℕ) → Spells f R Ends
    → push_one push f s x ≡ ok (later, y) → Within push R left later y → Within push R left s x
item_before {A = A} {S = S} push f R Ends left s later x y spells e w =
    let a = bind_ok (f x) (λ (v : A × List ℕ). give (push s v.0) v.1) (later, y) e in
    let same = same_answer {E = List ℕ} (push s a.0.0) later a.0.1 y a.2 in
    let t = spells.takes x a.0.0 a.0.1 a.1 in
    let on = w.goes_on in
    record {
      text = t.0 ++ w.text;
      goes_on = record {
        more = on.more;
        value = on.value;
        is = (a.0.0 ∷ on.is.0, (t.0, w.text ++ on.more, t.1, on.is.1, append_assoc t.0 w.text on.more), on.is.2 ∙ ap (λ (z : S). fold push z on.is.0) (sym same.0));
      };
      parts = t.2 ∙ ap (λ (b : List ℕ). t.0 ++ b) (same.1 ∙ w.parts) ∙ sym (append_assoc t.0 w.text left);
    }

pub gathered_viable : {A S : Type 0} (push : S → A → S) (start : S) (test : List ℕ → Bool) {f : Reader A} {R : Grammar A} {Ends : List ℕ → Type 0} → Spells f R Ends → IsViable f R
    → IsViable (repeat (λ s bytes. test bytes) (push_one push f) start) (Gathered push start R)
unfolding repeat
gathered_viable {A = A} {S = S} push start test {f = f} {R = R} {Ends = Ends} spells p = record {
  viable = λ bytes left e.
      let w = turns_stop_back (λ (s : S) b. test b) (push_one push f) (Within push R left) left
      (λ s x g stopped. item_within push f R x left s p (bind_err (f x) (λ (v : A × List ℕ). give (push s v.0) v.1) left stopped))
      (λ s later x y g turned there. item_before push f R Ends left s later x y spells turned there)
      (suc (length bytes)) start bytes e in
      (w.text, w.goes_on, w.parts);
}

pub many_viable : {A : Type 0} (test : List ℕ → Bool) {f : Reader A} {R : Grammar A} {Ends : List ℕ → Type 0} → Spells f R Ends → IsViable f R → IsViable (many test f) (Each R)
unfolding many
many_viable {A = A} test {R = R} spells p =
    viable_as (gathered_viable (λ (l : List A) x. l ++ x ∷ []) [] test spells p)
    (λ text xs g. subst (λ (z : List A). Each R text z) (sym (g.2 ∙ all_pushed [] g.0)) g.1)

pub joined_viable : (test : List ℕ → Bool) {f : Reader (List ℕ)} {R : Grammar (List ℕ)} {Ends : List ℕ → Type 0} → Spells f R Ends → IsViable f R → IsViable (joined test f) (Joined R)
unfolding joined
joined_viable test spells p =
    viable_as (gathered_viable (λ (t : List ℕ) piece. t ++ piece) [] test spells p) (λ text y g. (g.0, g.1, g.2 ∙ all_joined [] g.0))
