-- Readers that look further than the next byte where they read on: the laws of `StopsInPlace`.
use Rattle.std.proofs.Common.{◌≡◌, ℕ, zero, suc, ◌<◌, Bool, true, false, cond, List, [], ◌∷◌, ◌++◌, length, Ok, Err, refl, sym, ap, ◌∙◌, append_assoc, arith}
use Rattle.std.proofs.lemmas.List.{append_cancel_right}
use Rattle.reading.proofs.TurnPlaces.{stops_by}
use Rattle.reading.specs.Readers.{Read, Reader, ◌>>=◌, give, follow, mapped, choice, turns, repeat}
use Rattle.reading.specs.Grammars.{Grammar}
use Rattle.reading.specs.Spelling.{Spells}
use Rattle.reading.specs.Placed.{PlacedGrammar, SpellsPlaced}
use Rattle.reading.specs.Places.{SameNext, IsLocal, StopsInPlace}
use Rattle.reading.proofs.SpellLaws.{ok, stop, bind_ok, Stopped, at_first, at_second, bind_err}
use Rattle.reading.proofs.PlaceLaws.{give_local}
use Rattle.reading.proofs.Turns.{turn_once, turn_none, turns_back, turns_stop_back}

pub local_stops : {A : Type 0} {f : Reader A} → IsLocal f → StopsInPlace f
local_stops p = record {
  front = λ bytes x rest e. p.front bytes x rest e;
  stopped = λ bytes left e. p.stopped bytes left e;
  err = λ text rest other s e. p.err text rest other s e;
}

-- no text of the grammar begins with what was read and the byte behind it
pub goes_no_further : {A : Type 0} {f : Reader A} {R : Grammar A} {Ends : List ℕ → Type 0} → Spells f R Ends → StopsInPlace f
    → (text later more rest : List ℕ) (next : ℕ) (x : A) → f (text ++ next ∷ later) ≡ stop (next ∷ later) → R (text ++ next ∷ more) x → Ends rest → ⊥
goes_no_further {A = A} {f = f} spells stops text later more rest next x e r ends =
    let read : f ((text ++ next ∷ more) ++ rest) ≡ ok (x, rest) = spells.again (text ++ next ∷ more) x rest r ends in
    let stopped : f (text ++ next ∷ (more ++ rest)) ≡ stop (next ∷ (more ++ rest)) =
    stops.err text (next ∷ later) (next ∷ (more ++ rest)) (next, later, more ++ rest, refl, refl) e in
    let clash : ok (x, rest) ≡ stop (next ∷ (more ++ rest)) = sym read ∙ ap f (append_assoc text (next ∷ more) rest) ∙ stopped in
    absurd cc

-- the same of a grammar whose values may speak of what stands behind
pub goes_no_further_in_place : {A : Type 0} {f : Reader A} {R : PlacedGrammar A} {Ends : List ℕ → Type 0} → SpellsPlaced f R Ends → StopsInPlace f
    → (text later more rest : List ℕ) (next : ℕ) (x : A) → f (text ++ next ∷ later) ≡ stop (next ∷ later) → R (text ++ next ∷ more) rest x → Ends rest → ⊥
goes_no_further_in_place {A = A} {f = f} spells stops text later more rest next x e r ends =
    let read : f ((text ++ next ∷ more) ++ rest) ≡ ok (x, rest) = spells.again (text ++ next ∷ more) x rest r ends in
    let stopped : f (text ++ next ∷ (more ++ rest)) ≡ stop (next ∷ (more ++ rest)) =
    stops.err text (next ∷ later) (next ∷ (more ++ rest)) (next, later, more ++ rest, refl, refl) e in
    let clash : ok (x, rest) ≡ stop (next ∷ (more ++ rest)) = sym read ∙ ap f (append_assoc text (next ∷ more) rest) ∙ stopped in
    absurd cc

-- ---- one after the other

-- where the second stops, the first reads the same with other bytes behind the next one
abbrev pub Stays : {A B : Type 0} → Reader A → (A → Reader B) → Type 0
Stays {A} f g = (text two rest other : List ℕ) (x : A) → SameNext rest other → f (text ++ (two ++ rest)) ≡ Ok (x, two ++ rest) → g x (two ++ rest) ≡ Err rest → f (text ++ (two ++ other)) ≡ Ok (x, two ++ other)

pub follow_stopped : {A B : Type 0} (f : Reader A) (g : A → Reader B) (bytes left : List ℕ) → StopsInPlace f → ((x : A) → StopsInPlace (g x)) → Stopped (f bytes) (λ (x : A × List ℕ). g x.0 x.1) left → (text : List ℕ) × (bytes ≡ text ++ left)
follow_stopped f g bytes left p q (at_first e) = p.stopped bytes left e
follow_stopped f g bytes left p q (at_second x e h) =
    let one = p.front bytes x.0 x.1 e in
    let two = (q x.0).stopped x.1 left h in
    (one.0 ++ two.0, one.1 ∙ ap (λ (b : List ℕ). one.0 ++ b) two.1 ∙ sym (append_assoc one.0 two.0 left))

-- the text is what both read
both_fronts : (text one two rest mid : List ℕ) → text ++ rest ≡ one ++ mid → mid ≡ two ++ rest → text ≡ one ++ two
both_fronts text one two rest mid first second =
    append_cancel_right text (one ++ two) rest (first ∙ ap (λ (b : List ℕ). one ++ b) second ∙ sym (append_assoc one two rest))

follow_err : {A B : Type 0} (f : Reader A) (g : A → Reader B) (text rest other : List ℕ) → StopsInPlace f → ((x : A) → StopsInPlace (g x)) → Stays f g → SameNext rest other
    → Stopped (f (text ++ rest)) (λ (x : A × List ℕ). g x.0 x.1) rest → follow f g (text ++ other) ≡ stop other
follow_err {A = A} f g text rest other p q stays s (at_first e) = ap (λ (r : Read A). r >>= λ (x : A × List ℕ). g x.0 x.1) (p.err text rest other s e)
follow_err {A = A} f g text rest other p q stays s (at_second x e h) =
    let one = p.front (text ++ rest) x.0 x.1 e in
    let two = (q x.0).stopped x.1 rest h in
    let parts = both_fronts text one.0 two.0 rest x.1 one.1 two.1 in
    let here : f (one.0 ++ (two.0 ++ rest)) ≡ ok (x.0, two.0 ++ rest) = ap f (sym (one.1 ∙ ap (λ (b : List ℕ). one.0 ++ b) two.1)) ∙ e ∙ ap (λ (b : List ℕ). ok (x.0, b)) two.1 in
    let there : g x.0 (two.0 ++ rest) ≡ stop rest = ap (g x.0) (sym two.1) ∙ h in
    let whole : text ++ other ≡ one.0 ++ (two.0 ++ other) = ap (λ (t : List ℕ). t ++ other) parts ∙ append_assoc one.0 two.0 other in
    ap (follow f g) whole ∙ ap (λ (r : Read A). r >>= λ (v : A × List ℕ). g v.0 v.1) (stays one.0 two.0 rest other x.0 s here there) ∙ (q x.0).err two.0 rest other s there

pub follow_stops : {A B : Type 0} {f : Reader A} {g : A → Reader B} → StopsInPlace f → ((x : A) → StopsInPlace (g x)) → Stays f g → StopsInPlace (follow f g)
follow_stops {A = A} {f = f} {g = g} p q stays = record {
  front = λ bytes y rest e.
      let a = bind_ok (f bytes) (λ (x : A × List ℕ). g x.0 x.1) (y, rest) e in
      let one = p.front bytes a.0.0 a.0.1 a.1 in
      let two = (q a.0.0).front a.0.1 y rest a.2 in
      (one.0 ++ two.0, one.1 ∙ ap (λ (b : List ℕ). one.0 ++ b) two.1 ∙ sym (append_assoc one.0 two.0 rest));
  stopped = λ bytes left e. follow_stopped f g bytes left p q (bind_err (f bytes) (λ (x : A × List ℕ). g x.0 x.1) left e);
  err = λ text rest other s e. follow_err f g text rest other p q stays s (bind_err (f (text ++ rest)) (λ (x : A × List ℕ). g x.0 x.1) rest e);
}

give_stops : {A : Type 0} (x : A) (text two rest other left : List ℕ) → give x (two ++ rest) ≡ stop {A = A} left → ⊥
give_stops x text two rest other left e = absurd cc

pub mapped_stops : {A B : Type 0} (view : A → B) {f : Reader A} → StopsInPlace f → StopsInPlace (mapped view f)
mapped_stops view {f = f} p =
    follow_stops p (λ x. local_stops (give_local (view x)))
    (λ text two rest other x s e h. absurd (give_stops (view x) text two rest other rest h))

-- ---- one or the other

front_by : {A : Type 0} (f g : Reader A) (bytes rest : List ℕ) (x : A) (t : Bool) → StopsInPlace f → StopsInPlace g → cond t (f bytes) (g bytes) ≡ ok (x, rest) → (text : List ℕ) × (bytes ≡ text ++ rest)
front_by f g bytes rest x true p q e = p.front bytes x rest e
front_by f g bytes rest x false p q e = q.front bytes x rest e

stopped_by : {A : Type 0} (f g : Reader A) (bytes left : List ℕ) (t : Bool) → StopsInPlace f → StopsInPlace g → cond t (f bytes) (g bytes) ≡ stop left → (text : List ℕ) × (bytes ≡ text ++ left)
stopped_by f g bytes left true p q e = p.stopped bytes left e
stopped_by f g bytes left false p q e = q.stopped bytes left e

err_by : {A : Type 0} (f g : Reader A) (text rest other : List ℕ) (t : Bool) → StopsInPlace f → StopsInPlace g → SameNext rest other → cond t (f (text ++ rest)) (g (text ++ rest)) ≡ stop rest → cond t (f (text ++ other)) (g (text ++ other)) ≡ stop other
err_by f g text rest other true p q s e = p.err text rest other s e
err_by f g text rest other false p q s e = q.err text rest other s e

-- where it stops, the test says the same with other bytes behind the next one
pub choice_stops : {A : Type 0} (test : List ℕ → Bool) {f g : Reader A} → StopsInPlace f → StopsInPlace g
    → ((text rest other : List ℕ) → SameNext rest other → choice test f g (text ++ rest) ≡ Err rest → test (text ++ other) ≡ test (text ++ rest)) → StopsInPlace (choice test f g)
choice_stops {A = A} test {f = f} {g = g} p q says = record {
  front = λ bytes x rest e. front_by f g bytes rest x (test bytes) p q e;
  stopped = λ bytes left e. stopped_by f g bytes left (test bytes) p q e;
  err = λ text rest other s e.
      ap (λ (t : Bool). cond t (f (text ++ other)) (g (text ++ other))) (says text rest other s e) ∙ err_by f g text rest other (test (text ++ rest)) p q s e;
}

-- ---- turns

-- Where a later turn stops, this one goes on with other bytes behind the next one as it does; where it stops itself, it is still taken.
pub record TurnsStop {S : Type 0} (goes : S → List ℕ → Bool) (turn : S → Reader S) : Type 0 where
  pub stops : (s : S) → StopsInPlace (turn s)
  pub shorter : (s later : S) (x y : List ℕ) → turn s x ≡ ok (later, y) → length y < length x
  pub here : (s : S) (text rest other : List ℕ) → SameNext rest other → goes s (text ++ rest) ≡ true → turn s (text ++ rest) ≡ stop rest → goes s (text ++ other) ≡ true
  pub again : (s later : S) (text two rest other : List ℕ) (fuel : ℕ) → SameNext rest other → goes s (text ++ (two ++ rest)) ≡ true → turn s (text ++ (two ++ rest)) ≡ ok (later, two ++ rest)
      → turns goes turn fuel later (two ++ rest) ≡ stop rest → (goes s (text ++ (two ++ other)) ≡ true) × (turn s (text ++ (two ++ other)) ≡ ok (later, two ++ other))

turns_stopped : {S : Type 0} (goes : S → List ℕ → Bool) (turn : S → Reader S) → TurnsStop goes turn → (fuel : ℕ) (s : S) (bytes left : List ℕ) → turns goes turn fuel s bytes ≡ stop left → (text : List ℕ) × (bytes ≡ text ++ left)
turns_stopped {S = S} goes turn p fuel s bytes left e =
    turns_stop_back goes turn (λ (s : S) (b : List ℕ). (text : List ℕ) × (b ≡ text ++ left)) left
    (λ s x g stopped. (p.stops s).stopped x left stopped)
    (λ s later x y g turned there.
    let one = (p.stops s).front x later y turned in
    (one.0 ++ there.0, one.1 ∙ ap (λ (b : List ℕ). one.0 ++ b) there.1 ∙ sym (append_assoc one.0 there.0 left)))
    fuel s bytes e

stop_later : {S : Type 0} (goes : S → List ℕ → Bool) (turn : S → Reader S) (fuel : ℕ) (s later : S) (bytes after_ : List ℕ) (r : Read S) → goes s bytes ≡ true → length bytes < fuel → TurnsStop goes turn
    → turn s bytes ≡ ok (later, after_) → ((fuel : ℕ) → length after_ < fuel → turns goes turn fuel later after_ ≡ r) → turns goes turn fuel s bytes ≡ r
stop_later goes turn zero s later bytes after_ r g enough p e rest = absurd (omega (arith, enough))
stop_later {S = S} goes turn (suc fuel) s later bytes after_ r g enough p e rest =
    let less = p.shorter s later bytes after_ e in
    turn_once goes turn fuel s bytes g ∙ ap (λ (x : Read S). x >>= λ (v : S × List ℕ). turns goes turn fuel v.0 v.1) e ∙ rest fuel (omega (arith, less, enough))

again_stopped : {S : Type 0} (goes : S → List ℕ → Bool) (turn : S → Reader S) (fuel again : ℕ) (s : S) (text rest other : List ℕ) → goes s (text ++ rest) ≡ true → TurnsStop goes turn → SameNext rest other
    → ((s : S) (text : List ℕ) → turns goes turn fuel s (text ++ rest) ≡ stop rest → (again : ℕ) → length (text ++ other) < again → turns goes turn again s (text ++ other) ≡ stop other)
    → length (text ++ other) < again → Stopped (turn s (text ++ rest)) (λ (x : S × List ℕ). turns goes turn fuel x.0 x.1) rest → turns goes turn again s (text ++ other) ≡ stop other
again_stopped goes turn fuel again s text rest other g p n later much (at_first e) =
    stops_by goes turn again s (text ++ other) other (p.here s text rest other n g e) much ((p.stops s).err text rest other n e)
again_stopped {S = S} goes turn fuel again s text rest other g p n later much (at_second x e h) =
    let one = (p.stops s).front (text ++ rest) x.0 x.1 e in
    let two = turns_stopped goes turn p fuel x.0 x.1 rest h in
    let parts = both_fronts text one.0 two.0 rest x.1 one.1 two.1 in
    let here_ : text ++ rest ≡ one.0 ++ (two.0 ++ rest) = one.1 ∙ ap (λ (b : List ℕ). one.0 ++ b) two.1 in
    let whole : text ++ other ≡ one.0 ++ (two.0 ++ other) = ap (λ (t : List ℕ). t ++ other) parts ∙ append_assoc one.0 two.0 other in
    let there : turns goes turn fuel x.0 (two.0 ++ rest) ≡ stop rest = ap (λ (b : List ℕ). turns goes turn fuel x.0 b) (sym two.1) ∙ h in
    let turned : turn s (one.0 ++ (two.0 ++ rest)) ≡ ok (x.0, two.0 ++ rest) = ap (turn s) (sym here_) ∙ e ∙ ap (λ (b : List ℕ). ok (x.0, b)) two.1 in
    let a = p.again s x.0 one.0 two.0 rest other fuel n (ap (goes s) (sym here_) ∙ g) turned there in
    let enough : length (one.0 ++ (two.0 ++ other)) < again = omega (arith, ap (λ (b : List ℕ). length b) whole, much) in
    ap (λ (b : List ℕ). turns goes turn again s b) whole
    ∙ stop_later goes turn again s x.0 (one.0 ++ (two.0 ++ other)) (two.0 ++ other) (stop other) a.0 enough p a.1 (later x.0 two.0 there)

again_by : {S : Type 0} (goes : S → List ℕ → Bool) (turn : S → Reader S) (fuel again : ℕ) (s : S) (text rest other : List ℕ) (t : Bool) → goes s (text ++ rest) ≡ t → TurnsStop goes turn → SameNext rest other
    → ((s : S) (text : List ℕ) → turns goes turn fuel s (text ++ rest) ≡ stop rest → (again : ℕ) → length (text ++ other) < again → turns goes turn again s (text ++ other) ≡ stop other)
    → length (text ++ other) < again → turns goes turn (suc fuel) s (text ++ rest) ≡ stop rest → turns goes turn again s (text ++ other) ≡ stop other
again_by {S = S} goes turn fuel again s text rest other true g p n later much e =
    again_stopped goes turn fuel again s text rest other g p n later much
    (bind_err (turn s (text ++ rest)) (λ (x : S × List ℕ). turns goes turn fuel x.0 x.1) rest (sym (turn_once goes turn fuel s (text ++ rest) g) ∙ e))
again_by goes turn fuel again s text rest other false g p n later much e =
    let clash : ok (s, text ++ rest) ≡ stop rest = sym (turn_none goes turn fuel s (text ++ rest) g) ∙ e in
    absurd cc

turns_err : {S : Type 0} (goes : S → List ℕ → Bool) (turn : S → Reader S) (rest other : List ℕ) → TurnsStop goes turn → SameNext rest other → (fuel : ℕ) (s : S) (text : List ℕ)
    → turns goes turn fuel s (text ++ rest) ≡ stop rest → (again : ℕ) → length (text ++ other) < again → turns goes turn again s (text ++ other) ≡ stop other
unfolding turns
turns_err goes turn rest other p n zero s text e again much = absurd cc
turns_err goes turn rest other p n (suc fuel) s text e again much =
    again_by goes turn fuel again s text rest other (goes s (text ++ rest)) refl p n (turns_err goes turn rest other p n fuel) much e

pub repeat_stops : {S : Type 0} (goes : S → List ℕ → Bool) (turn : S → Reader S) (s : S) → TurnsStop goes turn → StopsInPlace (repeat goes turn s)
unfolding repeat
repeat_stops {S = S} goes turn s p = record {
  front = λ bytes end_ rest e.
      turns_back goes turn (λ (s : S) (b : List ℕ). (text : List ℕ) × (b ≡ text ++ rest)) end_ rest (λ g. ([], refl))
      (λ s later x y g turned there.
      let one = (p.stops s).front x later y turned in
      (one.0 ++ there.0, one.1 ∙ ap (λ (b : List ℕ). one.0 ++ b) there.1 ∙ sym (append_assoc one.0 there.0 rest)))
      (λ s later x y g turned. p.shorter s later x y turned)
      (suc (length bytes)) s bytes (omega arith) e;
  stopped = λ bytes left e. turns_stopped goes turn p (suc (length bytes)) s bytes left e;
  err = λ text rest other n e. turns_err goes turn rest other p n (suc (length (text ++ rest))) s text e (suc (length (text ++ other))) (omega arith);
}

-- where turns end, the test says no more
pub repeat_ends : {S : Type 0} (goes : S → List ℕ → Bool) (turn : S → Reader S) (s end_ : S) (bytes rest : List ℕ) → ((s later : S) (x y : List ℕ) → turn s x ≡ ok (later, y) → length y < length x)
    → repeat goes turn s bytes ≡ ok (end_, rest) → goes end_ rest ≡ false
unfolding repeat
repeat_ends {S = S} goes turn s end_ bytes rest shorter e =
    turns_back goes turn (λ (s : S) (b : List ℕ). goes end_ rest ≡ false) end_ rest (λ g. g) (λ s later x y g turned there. there)
    (λ s later x y g turned. shorter s later x y turned) (suc (length bytes)) s bytes (omega arith) e
