-- Where skipped runs, and texts up to where one can read, stop.
use Rattle.std.proofs.Common.{◌≡◌, ◌⊎◌, inl, inr, ℕ, Bool, true, false, cond, List, [], ◌∷◌, ◌++◌, Ok, Err, is_ok, refl, sym, ap, subst, ◌∙◌, append_assoc}
use Rattle.std.specs.Prelude.{⊤}
use Rattle.std.proofs.lemmas.List.{append-nil, append_cancel_right}
use Rattle.basic_laws.proofs.Lists.{none_behind}
use Rattle.reading.specs.Readers.{Read, Reader, ◌>>=◌, give, mapped, with_byte, run_of, skip, until, can_read, up_to}
use Rattle.reading.specs.Grammars.{Grammar, AllPass, NowhereIn, UpTo}
use Rattle.reading.specs.Spelling.{Anything, Spells, SeesWithin}
use Rattle.reading.specs.Places.{SameNext, IsLocal, GoesOnFrom, IsViable}
use Rattle.reading.proofs.SpellLaws.{ok, stop, Stopped, at_first, at_second, bind_err}
use Rattle.reading.proofs.PlaceLaws.{mapped_local}
use Rattle.reading.proofs.RunPlaces.{run_of_local}
use Rattle.reading.proofs.UpToLaws.{nowhere_as, up_to_spells}

-- ---- the same reader in other words

pub local_as : {A : Type 0} {f g : Reader A} → ((bytes : List ℕ) → f bytes ≡ g bytes) → IsLocal g → IsLocal f
local_as same p = record {
  front = λ bytes x rest e. p.front bytes x rest (sym (same bytes) ∙ e);
  stopped = λ bytes left e. p.stopped bytes left (sym (same bytes) ∙ e);
  ok = λ text rest other x s e. same (text ++ other) ∙ p.ok text rest other x s (sym (same (text ++ rest)) ∙ e);
  err = λ text rest other s e. same (text ++ other) ∙ p.err text rest other s (sym (same (text ++ rest)) ∙ e);
}

-- a reader whose grammar demands nothing of what comes behind
pub local_of_spells : {A : Type 0} {f : Reader A} {R : Grammar A} → Spells f R Anything
    → ((bytes left : List ℕ) → f bytes ≡ stop left → (text : List ℕ) × (bytes ≡ text ++ left))
    → ((text rest other : List ℕ) → SameNext rest other → f (text ++ rest) ≡ stop rest → f (text ++ other) ≡ stop other) → IsLocal f
local_of_spells {R = R} p stopped err = record {
  front = λ bytes x rest e.
      let t = p.takes bytes x rest e in
      (t.0, t.2);
  stopped = stopped;
  ok = λ text rest other x s e.
      let t = p.takes (text ++ rest) x rest e in
      let same : t.0 ≡ text = append_cancel_right t.0 text rest (sym t.2) in
      p.again text x other (subst (λ (s : List ℕ). R s x) same t.1) tt;
  err = err;
}

-- ---- skipped runs

one_more : (byte : ℕ) (r : Read (List ℕ)) → (r >>= λ (x : List ℕ × List ℕ). ok {E = List ℕ} {A = ⊤} (tt, x.1)) ≡ (with_byte byte r >>= λ (x : List ℕ × List ℕ). ok {E = List ℕ} {A = ⊤} (tt, x.1))
one_more byte (Ok x) = refl
one_more byte (Err left) = refl

skip_as_run_by : (test : ℕ → Bool) (byte : ℕ) (bytes : List ℕ) (t : Bool) → skip test bytes ≡ (run_of test bytes >>= λ (x : List ℕ × List ℕ). ok {E = List ℕ} {A = ⊤} (tt, x.1))
    → cond t (skip test bytes) (ok (tt, byte ∷ bytes)) ≡ (cond t (with_byte byte (run_of test bytes)) (ok ([], byte ∷ bytes)) >>= λ (x : List ℕ × List ℕ). ok {E = List ℕ} {A = ⊤} (tt, x.1))
skip_as_run_by test byte bytes true later = later ∙ one_more byte (run_of test bytes)
skip_as_run_by test byte bytes false later = refl

pub skip_as_run : (test : ℕ → Bool) (bytes : List ℕ) → skip test bytes ≡ mapped (λ (run : List ℕ). tt) (run_of test) bytes
unfolding skip run_of
skip_as_run test [] = refl
skip_as_run test (byte ∷ bytes) = skip_as_run_by test byte bytes (test byte) (skip_as_run test bytes)

pub skip_local : (test : ℕ → Bool) → IsLocal (skip test)
skip_local test = local_as (skip_as_run test) (mapped_local (λ (run : List ℕ). tt) (run_of_local test))

skip_never_by : (test : ℕ → Bool) (byte : ℕ) (bytes left : List ℕ) (t : Bool) → (skip test bytes ≡ stop left → ⊥) → cond t (skip test bytes) (ok (tt, byte ∷ bytes)) ≡ stop left → ⊥
skip_never_by test byte bytes left true later e = later e
skip_never_by test byte bytes left false later e = absurd cc

pub skip_never : (test : ℕ → Bool) (bytes left : List ℕ) → skip test bytes ≡ stop left → ⊥
unfolding skip
skip_never test [] left e = absurd cc
skip_never test (byte ∷ bytes) left e = skip_never_by test byte bytes left (test byte) (skip_never test bytes left) e

pub skip_viable : (test : ℕ → Bool) → IsViable (skip test) (λ text u. AllPass test text)
skip_viable test = record { viable = λ bytes left e. absurd (skip_never test bytes left e) }

-- ---- up to a test

-- no place was found
record IsNowhere (test : List ℕ → Bool) (bytes left : List ℕ) : Type 0 where
  none : left ≡ []
  nowhere : (run at : List ℕ) → bytes ≡ run ++ at → test at ≡ false

with_byte_err : (byte : ℕ) (r : Read (List ℕ)) (left : List ℕ) → with_byte byte r ≡ stop left → r ≡ stop left
with_byte_err byte (Ok x) left e = absurd cc
with_byte_err byte (Err there) left e =
    let same : there ≡ left = cc in
    ap (λ (l : List ℕ). stop l) same

no_place : (test : List ℕ → Bool) (byte : ℕ) (bytes run at : List ℕ) → test (byte ∷ bytes) ≡ false → ((run at : List ℕ) → bytes ≡ run ++ at → test at ≡ false) → byte ∷ bytes ≡ run ++ at → test at ≡ false
no_place test byte bytes [] at is later e = ap test (sym e) ∙ is
no_place test byte bytes (b ∷ run) at is later e =
    let tail : bytes ≡ run ++ at = cc in
    later run at tail

until_stops_by : (test : List ℕ → Bool) (byte : ℕ) (bytes left : List ℕ) (t : Bool) → test (byte ∷ bytes) ≡ t → (until test bytes ≡ stop left → IsNowhere test bytes left)
    → cond t (ok ([], byte ∷ bytes)) (with_byte byte (until test bytes)) ≡ stop left → IsNowhere test (byte ∷ bytes) left
until_stops_by test byte bytes left true is later e = absurd cc
until_stops_by test byte bytes left false is later e =
    let n = later (with_byte_err byte (until test bytes) left e) in
    record { none = n.none; nowhere = λ run at parts. no_place test byte bytes run at is n.nowhere parts }

until_stops_none : (test : List ℕ → Bool) (left : List ℕ) (t : Bool) → test [] ≡ t → cond t (ok {E = List ℕ} {A = List ℕ} ([], [])) (stop []) ≡ stop left → IsNowhere test [] left
until_stops_none test left true is e = absurd cc
until_stops_none test left false is e =
    let same : [] ≡ left = cc in
    record { none = sym same; nowhere = λ run at parts. ap test (none_behind run at parts) ∙ is }

until_stops : (test : List ℕ → Bool) (bytes left : List ℕ) → until test bytes ≡ stop left → IsNowhere test bytes left
unfolding until
until_stops test [] left e = until_stops_none test left (test []) refl e
until_stops test (byte ∷ bytes) left e = until_stops_by test byte bytes left (test (byte ∷ bytes)) refl (until_stops test bytes left) e

-- where the test says so behind the bytes, a first place is found
record IsReached (test : List ℕ → Bool) (bytes end_ : List ℕ) : Type 0 where
  run : List ℕ
  back : List ℕ
  parts : bytes ≡ run ++ back
  here : test (back ++ end_) ≡ true
  nowhere : NowhereIn test run (back ++ end_)

reached_by : (test : List ℕ → Bool) (byte : ℕ) (bytes end_ : List ℕ) (t : Bool) → test (byte ∷ (bytes ++ end_)) ≡ t → IsReached test bytes end_ → IsReached test (byte ∷ bytes) end_
reached_by test byte bytes end_ true is r = record { run = []; back = byte ∷ bytes; parts = refl; here = is; nowhere = tt }
reached_by test byte bytes end_ false is r =
    let whole : bytes ++ end_ ≡ r.run ++ (r.back ++ end_) = ap (λ (s : List ℕ). s ++ end_) r.parts ∙ append_assoc r.run r.back end_ in
    record {
      run = byte ∷ r.run;
      back = r.back;
      parts = ap (λ (s : List ℕ). byte ∷ s) r.parts;
      here = r.here;
      nowhere = (ap (λ (s : List ℕ). test (byte ∷ s)) (sym whole) ∙ is, r.nowhere);
    }

reached : (test : List ℕ → Bool) (bytes end_ : List ℕ) → test end_ ≡ true → IsReached test bytes end_
reached test [] end_ is = record { run = []; back = []; parts = refl; here = is; nowhere = tt }
reached test (byte ∷ bytes) end_ is = reached_by test byte bytes end_ (test (byte ∷ (bytes ++ end_))) refl (reached test bytes end_ is)

-- one front is the longer
split_more : (a b : ℕ) (u e : List ℕ) → a ≡ b → ((w : List ℕ) × (u ≡ e ++ w)) ⊎ ((m : List ℕ) × (e ≡ u ++ m)) → ((w : List ℕ) × (a ∷ u ≡ (b ∷ e) ++ w)) ⊎ ((m : List ℕ) × (b ∷ e ≡ (a ∷ u) ++ m))
split_more a b u e same (inl r) = inl (r.0, rw (same, r.1) refl)
split_more a b u e same (inr r) = inr (r.0, rw (same, r.1) refl)

pub split : (u v e l : List ℕ) → u ++ v ≡ e ++ l → ((w : List ℕ) × (u ≡ e ++ w)) ⊎ ((m : List ℕ) × (e ≡ u ++ m))
split [] v e l same = inr (e, refl)
split (a ∷ u) v [] l same = inl (a ∷ u, refl)
split (a ∷ u) v (b ∷ e) l same =
    let first : a ≡ b = cc in
    let others : u ++ v ≡ e ++ l = cc in
    split_more a b u e first (split u v e l others)

-- ---- up to where a reader can read

record Found {A : Type 0} (f : Reader A) (bytes : List ℕ) : Type 0 where
  x : A
  rest : List ℕ
  is : f bytes ≡ Ok (x, rest)

found_by : {A : Type 0} (f : Reader A) (bytes : List ℕ) (r : Read A) → f bytes ≡ r → is_ok r ≡ true → Found f bytes
found_by f bytes (Ok x) e is = record { x = x.0; rest = x.1; is = e }
found_by f bytes (Err left) e is = absurd cc

never_there : {A : Type 0} (f : Reader A) (v : List ℕ × List ℕ) (left : List ℕ) → can_read f v.1 ≡ true → mapped (λ (y : A). v.0) f v.1 ≡ stop left → ⊥
never_there {A = A} f v left is e =
    let there = found_by f v.1 (f v.1) refl is in
    let clash : ok (v.0, there.rest) ≡ stop left = sym (ap (λ (s : Read A). s >>= λ (y : A × List ℕ). give v.0 y.1) there.is) ∙ e in
    absurd cc

until_reads_by : (test : List ℕ → Bool) (byte : ℕ) (bytes : List ℕ) (v : List ℕ × List ℕ) (t : Bool) → test (byte ∷ bytes) ≡ t → ((w : List ℕ × List ℕ) → until test bytes ≡ Ok w → test w.1 ≡ true) → (r : Read (List ℕ)) → until test bytes ≡ r
    → cond t (ok ([], byte ∷ bytes)) (with_byte byte r) ≡ ok v → test v.1 ≡ true
until_reads_by test byte bytes v true is later r er e =
    let same : byte ∷ bytes ≡ v.1 = cc in
    ap test (sym same) ∙ is
until_reads_by test byte bytes v false is later (Ok w) er e =
    let same : w.1 ≡ v.1 = cc in
    ap test (sym same) ∙ later w er
until_reads_by test byte bytes v false is later (Err left) er e = absurd cc

until_none_reads : (test : List ℕ → Bool) (v : List ℕ × List ℕ) (t : Bool) → test [] ≡ t → cond t (ok {E = List ℕ} ([], [])) (stop []) ≡ ok v → test v.1 ≡ true
until_none_reads test v true is e =
    let same : [] ≡ v.1 = cc in
    ap test (sym same) ∙ is
until_none_reads test v false is e = absurd cc

until_reads : (test : List ℕ → Bool) (bytes : List ℕ) (v : List ℕ × List ℕ) → until test bytes ≡ Ok v → test v.1 ≡ true
unfolding until
until_reads test [] v e = until_none_reads test v (test []) refl e
until_reads test (byte ∷ bytes) v e = until_reads_by test byte bytes v (test (byte ∷ bytes)) refl (until_reads test bytes) (until test bytes) refl e

up_to_stops_by : {A : Type 0} (f : Reader A) (bytes left : List ℕ) → Stopped (until (can_read f) bytes) (λ (v : List ℕ × List ℕ). mapped (λ (y : A). v.0) f v.1) left → IsNowhere (can_read f) bytes left
up_to_stops_by f bytes left (at_first e) = until_stops (can_read f) bytes left e
up_to_stops_by f bytes left (at_second v e h) = absurd (never_there f v left (until_reads (can_read f) bytes v e) h)

up_to_stops : {A : Type 0} (f : Reader A) (bytes left : List ℕ) → up_to f bytes ≡ stop left → IsNowhere (can_read f) bytes left
unfolding up_to
up_to_stops {A = A} f bytes left e = up_to_stops_by f bytes left (bind_err (until (can_read f) bytes) (λ (v : List ℕ × List ℕ). mapped (λ (y : A). v.0) f v.1) left e)

nothing_next : (rest other : List ℕ) → SameNext rest other → rest ≡ [] → ⊥
nothing_next rest other s e =
    let clash : s.0 ∷ s.1 ≡ [] = sym s.3 ∙ e in
    absurd cc

pub up_to_local : {A : Type 0} {f : Reader A} {R : Grammar A} → Spells f R Anything → SeesWithin f R → IsLocal (up_to f)
up_to_local {f = f} p within =
    local_of_spells (up_to_spells p within)
    (λ bytes left e. (bytes, sym (append-nil bytes) ∙ ap (λ (l : List ℕ). bytes ++ l) (sym (up_to_stops f bytes left e).none)))
    (λ text rest other s e. absurd (nothing_next rest other s (up_to_stops f (text ++ rest) rest e).none))

-- the end that was read reaches behind the bytes
completed : {A : Type 0} (f : Reader A) (R : Grammar A) (bytes run back end_ : List ℕ) (x : A) (e later : List ℕ) → Spells f R Anything → SeesWithin f R
    → ((run at : List ℕ) → bytes ≡ run ++ at → can_read f at ≡ false) → bytes ≡ run ++ back → NowhereIn (can_read f) run (back ++ end_) → f (back ++ end_) ≡ Ok (x, later) → R e x → back ++ end_ ≡ e ++ later
    → ((w : List ℕ) × (back ≡ e ++ w)) ⊎ ((m : List ℕ) × (e ≡ back ++ m)) → GoesOnFrom (UpTo f R) bytes
completed {A = A} f R bytes run back end_ x e later p within none parts nowhere read is whole (inl r) =
    let again : f (e ++ r.0) ≡ ok (x, r.0) = p.again e x r.0 is tt in
    let can : can_read f back ≡ true = ap (can_read f) r.1 ∙ ap (λ (s : Read A). is_ok s) again in
    let clash : true ≡ false = sym can ∙ none run back parts in
    absurd cc
completed {A = A} f R bytes run back end_ x e later p within none parts nowhere read is whole (inr r) =
    let here : f (e ++ later) ≡ ok (x, later) = p.again e x later is tt in
    let before : NowhereIn (can_read f) run (e ++ later) = subst (λ (s : List ℕ). NowhereIn (can_read f) run s) whole nowhere in
    let alone : NowhereIn (can_read f) run e = nowhere_as (can_read f) run (e ++ later) e (λ byte inner. within.sees byte inner e later x is here) before in
    record {
      more = r.0;
      value = run;
      is = (x, e, is, alone, ap (λ (s : List ℕ). s ++ r.0) parts ∙ append_assoc run back r.0 ∙ ap (λ (s : List ℕ). run ++ s) (sym r.1));
    }

pub up_to_viable : {A : Type 0} {f : Reader A} {R : Grammar A} → Spells f R Anything → SeesWithin f R → (end_ : List ℕ) (x : A) → R end_ x → IsViable (up_to f) (UpTo f R)
up_to_viable {A = A} {f = f} {R = R} p within end_ x is = record {
  viable = λ bytes left e.
      let n = up_to_stops f bytes left e in
      let read : f (end_ ++ []) ≡ ok (x, []) = p.again end_ x [] is tt in
      let can : can_read f end_ ≡ true = ap (can_read f) (sym (append-nil end_)) ∙ ap (λ (s : Read A). is_ok s) read in
      let r = reached (can_read f) bytes end_ can in
      let there = found_by f (r.back ++ end_) (f (r.back ++ end_)) refl r.here in
      let t = p.takes (r.back ++ end_) there.x there.rest there.is in (
        bytes,
        completed f R bytes r.run r.back end_ there.x t.0 there.rest p within n.nowhere r.parts r.nowhere there.is t.1 t.2 (split r.back end_ t.0 there.rest t.2),
        sym (append-nil bytes) ∙ ap (λ (l : List ℕ). bytes ++ l) (sym n.none),
      );
}
