-- Turns from state to state: what a loop of the code keeps, and what is read by such turns.
use Rattle.std.proofs.Common.{◌≡◌, ℕ, zero, suc, ◌<◌, Bool, true, false, List, length, Ok, Err, refl, sym, ap, subst, ◌∙◌, arith}
use Rattle.reading.specs.Readers.{ReadOr, ReaderOr, ◌>>=◌, follow, turns, repeat}
use Rattle.reading.proofs.SpellLaws.{ok, stop, bind_ok, Stopped, at_first, at_second, bind_err, same_answer}

-- ---- one turn

pub turn_once : {E S : Type 0} (goes : S → List ℕ → Bool) (turn : S → ReaderOr E S) (fuel : ℕ) (s : S) (bytes : List ℕ) → goes s bytes ≡ true → turns goes turn (suc fuel) s bytes ≡ follow (turn s) (turns goes turn fuel) bytes
unfolding turns
turn_once goes turn fuel s bytes e = rw e refl

pub turn_none : {E S : Type 0} (goes : S → List ℕ → Bool) (turn : S → ReaderOr E S) (fuel : ℕ) (s : S) (bytes : List ℕ) → goes s bytes ≡ false → turns goes turn (suc fuel) s bytes ≡ ok (s, bytes)
unfolding turns
turn_none goes turn fuel s bytes e = rw e refl

-- ---- the loop of the code: what is still to be read gives what the whole gives

pub record IsTurning {E S : Type 0} (goes : S → List ℕ → Bool) (turn : S → ReaderOr E S) (total : ReadOr E S) (state : S) (rest : List ℕ) : Type 0 where
  pub left : ℕ
  pub enough : length rest < left
  pub same : turns goes turn left state rest ≡ total

pub turning_starts : {E S : Type 0} (goes : S → List ℕ → Bool) (turn : S → ReaderOr E S) (state : S) (bytes : List ℕ) → IsTurning goes turn (repeat goes turn state bytes) state bytes
unfolding repeat
turning_starts goes turn state bytes = record { left = suc (length bytes); enough = omega arith; same = refl }

turning_by : {E S : Type 0} (goes : S → List ℕ → Bool) (turn : S → ReaderOr E S) (total : ReadOr E S) (state later : S) (rest after : List ℕ) (left : ℕ)
    → goes state rest ≡ true → turn state rest ≡ ok (later, after) → length after < length rest → length rest < left → turns goes turn left state rest ≡ total → IsTurning goes turn total later after
turning_by goes turn total state later rest after zero g t lt enough same = absurd (omega arith)
turning_by {E = E} {S = S} goes turn total state later rest after (suc left) g t lt enough same =
    let here : turns goes turn (suc left) state rest ≡ turns goes turn left later after =
    turn_once goes turn left state rest g ∙ ap (λ (r : ReadOr E S). r >>= λ (x : S × List ℕ). turns goes turn left x.0 x.1) t in
    record { left = left; enough = omega arith; same = sym here ∙ same }

pub turning_goes_on : {E S : Type 0} {goes : S → List ℕ → Bool} {turn : S → ReaderOr E S} {total : ReadOr E S} {state : S} {rest : List ℕ} (later : S) (after : List ℕ)
    → IsTurning goes turn total state rest → goes state rest ≡ true → turn state rest ≡ ok (later, after) → length after < length rest → IsTurning goes turn total later after
turning_goes_on {goes = goes} {turn = turn} {total = total} {state = state} {rest = rest} later after now g t lt =
    turning_by goes turn total state later rest after now.left g t lt now.enough now.same

stopping_by : {E S : Type 0} (goes : S → List ℕ → Bool) (turn : S → ReaderOr E S) (total : ReadOr E S) (state : S) (rest : List ℕ) (stopped : E) (left : ℕ)
    → goes state rest ≡ true → turn state rest ≡ stop stopped → length rest < left → turns goes turn left state rest ≡ total → total ≡ Err stopped
stopping_by goes turn total state rest stopped zero g t enough same = absurd (omega arith)
stopping_by {E = E} {S = S} goes turn total state rest stopped (suc left) g t enough same =
    let here : turns goes turn (suc left) state rest ≡ Err stopped =
    turn_once goes turn left state rest g ∙ ap (λ (r : ReadOr E S). r >>= λ (x : S × List ℕ). turns goes turn left x.0 x.1) t in
    sym same ∙ here

pub turning_stops : {E S : Type 0} {goes : S → List ℕ → Bool} {turn : S → ReaderOr E S} {total : ReadOr E S} {state : S} {rest : List ℕ} (stopped : E)
    → IsTurning goes turn total state rest → goes state rest ≡ true → turn state rest ≡ stop stopped → total ≡ Err stopped
turning_stops {goes = goes} {turn = turn} {total = total} {state = state} {rest = rest} stopped now g t =
    stopping_by goes turn total state rest stopped now.left g t now.enough now.same

ending_by : {E S : Type 0} (goes : S → List ℕ → Bool) (turn : S → ReaderOr E S) (total : ReadOr E S) (state : S) (rest : List ℕ) (left : ℕ)
    → goes state rest ≡ false → length rest < left → turns goes turn left state rest ≡ total → total ≡ Ok (state, rest)
ending_by goes turn total state rest zero g enough same = absurd (omega arith)
ending_by goes turn total state rest (suc left) g enough same = sym same ∙ turn_none goes turn left state rest g

pub turning_ends : {E S : Type 0} {goes : S → List ℕ → Bool} {turn : S → ReaderOr E S} {total : ReadOr E S} {state : S} {rest : List ℕ}
    → IsTurning goes turn total state rest → goes state rest ≡ false → total ≡ Ok (state, rest)
turning_ends {goes = goes} {turn = turn} {total = total} {state = state} {rest = rest} now g = ending_by goes turn total state rest now.left g now.enough now.same

-- ---- what is in the grammar is read: from this state and these bytes the turns come to that state and those bytes

pub record GoesOn {E S : Type 0} (goes : S → List ℕ → Bool) (turn : S → ReaderOr E S) (fuel : ℕ) (state : S) (bytes : List ℕ) (later : S) (rest : List ℕ) : Type 0 where
  pub left : ℕ
  pub enough : length rest < left
  pub same : turns goes turn fuel state bytes ≡ turns goes turn left later rest

pub record Leads {E S : Type 0} (goes : S → List ℕ → Bool) (turn : S → ReaderOr E S) (state : S) (bytes : List ℕ) (later : S) (rest : List ℕ) : Type 0 where
  pub leads : (fuel : ℕ) → length bytes < fuel → GoesOn goes turn fuel state bytes later rest

pub leads_nowhere : {E S : Type 0} (goes : S → List ℕ → Bool) (turn : S → ReaderOr E S) (state : S) (bytes : List ℕ) → Leads goes turn state bytes state bytes
leads_nowhere goes turn state bytes = record { leads = λ fuel enough. record { left = fuel; enough = enough; same = refl } }

pub leads_on : {E S : Type 0} {goes : S → List ℕ → Bool} {turn : S → ReaderOr E S} {a b c : S} {x y z : List ℕ} → Leads goes turn a x b y → Leads goes turn b y c z → Leads goes turn a x c z
leads_on p q = record {
  leads = λ fuel enough.
      let first = p.leads fuel enough in
      let second = q.leads first.left first.enough in
      record { left = second.left; enough = second.enough; same = first.same ∙ second.same };
}

one_turn_by : {E S : Type 0} (goes : S → List ℕ → Bool) (turn : S → ReaderOr E S) (state later : S) (bytes rest : List ℕ) (fuel : ℕ)
    → goes state bytes ≡ true → turn state bytes ≡ ok (later, rest) → length rest < length bytes → length bytes < fuel → GoesOn goes turn fuel state bytes later rest
one_turn_by goes turn state later bytes rest zero g t lt enough = absurd (omega arith)
one_turn_by {E = E} {S = S} goes turn state later bytes rest (suc fuel) g t lt enough = record {
  left = fuel;
  enough = omega arith;
  same = turn_once goes turn fuel state bytes g ∙ ap (λ (r : ReadOr E S). r >>= λ (x : S × List ℕ). turns goes turn fuel x.0 x.1) t;
}

pub one_turn : {E S : Type 0} (goes : S → List ℕ → Bool) (turn : S → ReaderOr E S) (state later : S) (bytes rest : List ℕ)
    → goes state bytes ≡ true → turn state bytes ≡ ok (later, rest) → length rest < length bytes → Leads goes turn state bytes later rest
one_turn goes turn state later bytes rest g t lt = record { leads = λ fuel enough. one_turn_by goes turn state later bytes rest fuel g t lt enough }

-- turns that lead to where the test says no more are the whole
pub leads_to_end : {E S : Type 0} (goes : S → List ℕ → Bool) (turn : S → ReaderOr E S) (state later : S) (bytes rest : List ℕ)
    → Leads goes turn state bytes later rest → goes later rest ≡ false → repeat goes turn state bytes ≡ Ok (later, rest)
unfolding repeat
leads_to_end goes turn state later bytes rest p g =
    let there = p.leads (suc (length bytes)) (omega arith) in
    ending_by goes turn (turns goes turn (suc (length bytes)) state bytes) later rest there.left g there.enough (sym there.same)

-- ---- what is read is in the grammar: a fact that holds at the end and goes back over each turn holds at the start

back_by : {E S : Type 0} (goes : S → List ℕ → Bool) (turn : S → ReaderOr E S) (P : S → List ℕ → Type 0) (fuel : ℕ) (state end_ : S) (bytes rest : List ℕ) (t : Bool) → goes state bytes ≡ t
    → (goes end_ rest ≡ false → P end_ rest)
    → ((s later : S) (x y : List ℕ) → goes s x ≡ true → turn s x ≡ ok (later, y) → P later y → P s x)
    → ((s later : S) (x y : List ℕ) → goes s x ≡ true → turn s x ≡ ok (later, y) → length y < length x)
    → ((s : S) (x : List ℕ) → length x < fuel → turns goes turn fuel s x ≡ ok (end_, rest) → P s x)
    → length bytes < suc fuel → turns goes turn (suc fuel) state bytes ≡ ok (end_, rest) → P state bytes
back_by {E = E} {S = S} goes turn P fuel state end_ bytes rest true g at_end back shorter later enough e =
    let here = sym (turn_once goes turn fuel state bytes g) ∙ e in
    let a = bind_ok (turn state bytes) (λ (x : S × List ℕ). turns goes turn fuel x.0 x.1) (end_, rest) here in
    let less = shorter state a.0.0 bytes a.0.1 g a.1 in
    back state a.0.0 bytes a.0.1 g a.1 (later a.0.0 a.0.1 (omega arith) a.2)
back_by {E = E} {S = S} goes turn P fuel state end_ bytes rest false g at_end back shorter later enough e =
    let here = sym (turn_none goes turn fuel state bytes g) ∙ e in
    let same = same_answer {E = E} state end_ bytes rest here in
    let none : goes end_ rest ≡ false = rw (← same.0, ← same.1) g in
    rw (same.0, same.1) (at_end none)

pub turns_back : {E S : Type 0} (goes : S → List ℕ → Bool) (turn : S → ReaderOr E S) (P : S → List ℕ → Type 0) (end_ : S) (rest : List ℕ)
    → (goes end_ rest ≡ false → P end_ rest)
    → ((s later : S) (x y : List ℕ) → goes s x ≡ true → turn s x ≡ ok (later, y) → P later y → P s x)
    → ((s later : S) (x y : List ℕ) → goes s x ≡ true → turn s x ≡ ok (later, y) → length y < length x)
    → (fuel : ℕ) (state : S) (bytes : List ℕ) → length bytes < fuel → turns goes turn fuel state bytes ≡ ok (end_, rest) → P state bytes
turns_back goes turn P end_ rest at_end back shorter zero state bytes enough e = absurd (omega arith)
turns_back goes turn P end_ rest at_end back shorter (suc fuel) state bytes enough e =
    back_by goes turn P fuel state end_ bytes rest (goes state bytes) refl at_end back shorter (turns_back goes turn P end_ rest at_end back shorter fuel) enough e

-- ---- where turns stop: a fact that holds where a turn stops and goes back over each turn holds at the start

stop_back_stopped : {E S : Type 0} (goes : S → List ℕ → Bool) (turn : S → ReaderOr E S) (P : S → List ℕ → Type 0) (fuel : ℕ) (s : S) (bytes : List ℕ) (told : E) → goes s bytes ≡ true
    → ((s : S) (x : List ℕ) → goes s x ≡ true → turn s x ≡ stop told → P s x)
    → ((s later : S) (x y : List ℕ) → goes s x ≡ true → turn s x ≡ ok (later, y) → P later y → P s x)
    → ((s : S) (x : List ℕ) → turns goes turn fuel s x ≡ stop told → P s x)
    → Stopped (turn s bytes) (λ (x : S × List ℕ). turns goes turn fuel x.0 x.1) told → P s bytes
stop_back_stopped goes turn P fuel s bytes told g here back later (at_first e) = here s bytes g e
stop_back_stopped goes turn P fuel s bytes told g here back later (at_second x e h) = back s x.0 bytes x.1 g e (later x.0 x.1 h)

stop_back_by : {E S : Type 0} (goes : S → List ℕ → Bool) (turn : S → ReaderOr E S) (P : S → List ℕ → Type 0) (fuel : ℕ) (s : S) (bytes : List ℕ) (told : E) (t : Bool) → goes s bytes ≡ t
    → ((s : S) (x : List ℕ) → goes s x ≡ true → turn s x ≡ stop told → P s x)
    → ((s later : S) (x y : List ℕ) → goes s x ≡ true → turn s x ≡ ok (later, y) → P later y → P s x)
    → ((s : S) (x : List ℕ) → turns goes turn fuel s x ≡ stop told → P s x)
    → turns goes turn (suc fuel) s bytes ≡ stop told → P s bytes
stop_back_by {E = E} {S = S} goes turn P fuel s bytes told true g here back later e =
    stop_back_stopped goes turn P fuel s bytes told g here back later (bind_err (turn s bytes) (λ (x : S × List ℕ). turns goes turn fuel x.0 x.1) told (sym (turn_once goes turn fuel s bytes g) ∙ e))
stop_back_by goes turn P fuel s bytes told false g here back later e =
    let clash : ok (s, bytes) ≡ stop told = sym (turn_none goes turn fuel s bytes g) ∙ e in
    absurd cc

pub turns_stop_back : {E S : Type 0} (goes : S → List ℕ → Bool) (turn : S → ReaderOr E S) (P : S → List ℕ → Type 0) (told : E)
    → ((s : S) (x : List ℕ) → goes s x ≡ true → turn s x ≡ stop told → P s x)
    → ((s later : S) (x y : List ℕ) → goes s x ≡ true → turn s x ≡ ok (later, y) → P later y → P s x)
    → (fuel : ℕ) (s : S) (bytes : List ℕ) → turns goes turn fuel s bytes ≡ stop told → P s bytes
unfolding turns
turns_stop_back goes turn P told here back zero s bytes e = absurd cc
turns_stop_back goes turn P told here back (suc fuel) s bytes e =
    stop_back_by goes turn P fuel s bytes told (goes s bytes) refl here back (turns_stop_back goes turn P told here back fuel) e

-- ---- a fact that each turn keeps

keeps_by : {E S : Type 0} (goes : S → List ℕ → Bool) (turn : S → ReaderOr E S) (P : S → Type 0) (fuel : ℕ) (s end_ : S) (bytes rest : List ℕ) (t : Bool) → goes s bytes ≡ t
    → ((s later : S) (x y : List ℕ) → turn s x ≡ ok (later, y) → P s → P later)
    → ((s : S) (x : List ℕ) → turns goes turn fuel s x ≡ ok (end_, rest) → P s → P end_)
    → turns goes turn (suc fuel) s bytes ≡ ok (end_, rest) → P s → P end_
keeps_by {E = E} {S = S} goes turn P fuel s end_ bytes rest true g keeps later e p =
    let a = bind_ok (turn s bytes) (λ (x : S × List ℕ). turns goes turn fuel x.0 x.1) (end_, rest) (sym (turn_once goes turn fuel s bytes g) ∙ e) in
    later a.0.0 a.0.1 a.2 (keeps s a.0.0 bytes a.0.1 a.1 p)
keeps_by {E = E} goes turn P fuel s end_ bytes rest false g keeps later e p =
    subst P (same_answer {E = E} s end_ bytes rest (sym (turn_none goes turn fuel s bytes g) ∙ e)).0 p

pub turns_keep : {E S : Type 0} (goes : S → List ℕ → Bool) (turn : S → ReaderOr E S) (P : S → Type 0)
    → ((s later : S) (x y : List ℕ) → turn s x ≡ ok (later, y) → P s → P later)
    → (fuel : ℕ) (s end_ : S) (bytes rest : List ℕ) → turns goes turn fuel s bytes ≡ ok (end_, rest) → P s → P end_
unfolding turns
turns_keep {E = E} goes turn P keeps zero s end_ bytes rest e p = subst P (same_answer {E = E} s end_ bytes rest e).0 p
turns_keep goes turn P keeps (suc fuel) s end_ bytes rest e p =
    keeps_by goes turn P fuel s end_ bytes rest (goes s bytes) refl keeps (λ later x same q. turns_keep goes turn P keeps fuel later end_ x rest same q) e p

pub repeat_keeps : {E S : Type 0} (goes : S → List ℕ → Bool) (turn : S → ReaderOr E S) (P : S → Type 0)
    → ((s later : S) (x y : List ℕ) → turn s x ≡ ok (later, y) → P s → P later)
    → (s end_ : S) (bytes rest : List ℕ) → repeat goes turn s bytes ≡ ok (end_, rest) → P s → P end_
unfolding repeat
repeat_keeps goes turn P keeps s end_ bytes rest e p = turns_keep goes turn P keeps (suc (length bytes)) s end_ bytes rest e p
