-- A place that is left out of a line, as the line is reversed level by level.
use Rattle.std.proofs.Common.{◌≡◌, ◌∙◌, refl, sym, ap, arith, inl, inr, ℕ, zero, suc, ◌<◌, ◌≤◌, Bool, true, false, leb, List, [], ◌∷◌, ◌++◌, append_assoc, reverse, map}
use Rattle.std.proofs.lemmas.List.{map-append, reverse-append}
use Rattle.std.proofs.lemmas.Bool.{cases_Bool, leb-true, leb-false, le-leb, lt-leb}
use Rattle.bidi_order.specs.Reversals.{reverse_runs}

-- ---- one reversal

-- an element that doesn't pass parts the list
pub parted : {X : Type 0} (passes : X → Bool) (run xs : List X) (x : X) (ys : List X) → passes x ≡ false → reverse_runs passes run (xs ++ x ∷ ys) ≡ reverse_runs passes run xs ++ x ∷ reverse_runs passes [] ys
parted passes run [] x ys out = rw out refl
parted passes run (y ∷ xs) x ys out = elim (cases_Bool (passes y)) [
  | inl in_ ↦ rw in_ (parted passes (y ∷ run) xs x ys out)
  | inr other ↦ rw other
      (ap (λ l. run ++ y ∷ l) (parted passes [] xs x ys out) ∙ sym (append_assoc run (y ∷ reverse_runs passes [] xs) (x ∷ reverse_runs passes [] ys)))
]

-- the run that was read, where all of it passes, is put back
abbrev pub AllPass : {X : Type 0} → (X → Bool) → List X → Type 0
AllPass passes [] = Unit {0}
AllPass passes (x ∷ xs) = (passes x ≡ true) × AllPass passes xs

pub put_back : {X : Type 0} (passes : X → Bool) (acc run : List X) → AllPass passes run → reverse_runs passes acc run ≡ reverse run ++ acc
put_back passes acc [] all = refl
put_back passes acc (x ∷ run) all =
    let in_ : passes x ≡ true = all.0 in
    rw (in_, reverse-append (x ∷ []) run) (put_back passes (x ∷ acc) run all.1 ∙ sym (append_assoc (reverse run) (x ∷ []) acc))

-- a list that is reversed twice is as it was
twice_from : {X : Type 0} (passes : X → Bool) (run xs : List X) → AllPass passes run → reverse_runs passes [] (reverse_runs passes run xs) ≡ reverse run ++ xs
twice_from passes run [] all = put_back passes [] run all
twice_from passes run (x ∷ xs) all = elim (cases_Bool (passes x)) [
  | inl in_ ↦ rw in_ (twice_from passes (x ∷ run) xs (in_, all) ∙ rw (reverse-append (x ∷ []) run) (append_assoc (reverse run) (x ∷ []) xs))
  | inr other ↦ rw other
      (parted passes [] run x (reverse_runs passes [] xs) other ∙ rw (put_back passes [] run all, twice_from passes [] xs tt) (append_assoc (reverse run) [] (x ∷ xs)))
]

pub twice : {X : Type 0} (passes : X → Bool) (xs : List X) → reverse_runs passes [] (reverse_runs passes [] xs) ≡ xs
twice passes xs = twice_from passes [] xs tt

-- tests that agree give the same
pub agreeing : {X : Type 0} (p q : X → Bool) (run xs : List X) → ((x : X) → p x ≡ q x) → reverse_runs p run xs ≡ reverse_runs q run xs
agreeing p q run [] same = refl
agreeing p q run (x ∷ xs) same = elim (cases_Bool (q x)) [
  | inl in_ ↦ rw (same x, in_) (agreeing p q (x ∷ run) xs same)
  | inr other ↦ rw (same x, other) (ap (λ l. run ++ x ∷ l) (agreeing p q [] xs same))
]

-- where nothing passes, nothing moves
pub unmoved : {X : Type 0} (passes : X → Bool) (xs : List X) → ((x : X) → passes x ≡ false) → reverse_runs passes [] xs ≡ xs
unmoved passes [] none = refl
unmoved passes (x ∷ xs) none = rw (none x) (ap (λ l. x ∷ l) (unmoved passes xs none))

-- elements under other names
pub renamed : {X Y : Type 0} (f : X → Y) (p : X → Bool) (q : Y → Bool) (run xs : List X) → ((x : X) → q (f x) ≡ p x) → map f (reverse_runs p run xs) ≡ reverse_runs q (map f run) (map f xs)
renamed f p q run [] same = refl
renamed f p q run (x ∷ xs) same = elim (cases_Bool (p x)) [
  | inl in_ ↦ rw (same x, in_) (renamed f p q (x ∷ run) xs same)
  | inr other ↦ rw (same x, other) (map-append f run (x ∷ reverse_runs p [] xs) ∙ ap (λ l. map f run ++ f x ∷ l) (renamed f p q [] xs same))
]

-- ---- one element less

pub record Gone {X : Type 0} (a : X) (xs ys : List X) : Type 0 where
  pub before : List X
  pub after : List X
  pub with_ : xs ≡ before ++ a ∷ after
  pub less : ys ≡ before ++ after

gone_behind : {X : Type 0} (a : X) (front xs ys : List X) → Gone a xs ys → Gone a (front ++ xs) (front ++ ys)
gone_behind a front xs ys g = record {
  before = front ++ g.before;
  after = g.after;
  with_ = ap (λ l. front ++ l) g.with_ ∙ sym (append_assoc front g.before (a ∷ g.after));
  less = ap (λ l. front ++ l) g.less ∙ sym (append_assoc front g.before g.after);
}

gone_before : {X : Type 0} (a : X) (xs ys back : List X) → Gone a xs ys → Gone a (xs ++ back) (ys ++ back)
gone_before a xs ys back g = record {
  before = g.before;
  after = g.after ++ back;
  with_ = ap (λ l. l ++ back) g.with_ ∙ append_assoc g.before (a ∷ g.after) back;
  less = ap (λ l. l ++ back) g.less ∙ append_assoc g.before g.after back;
}

gone_run : {X : Type 0} (passes : X → Bool) (a : X) (run less xs : List X) → Gone a run less → Gone a (reverse_runs passes run xs) (reverse_runs passes less xs)
gone_run passes a run less [] g = g
gone_run passes a run less (x ∷ xs) g = elim (cases_Bool (passes x)) [
  | inl in_ ↦ rw in_ (gone_run passes a (x ∷ run) (x ∷ less) xs (gone_behind a (x ∷ []) run less g))
  | inr other ↦ rw other (gone_before a run less (x ∷ reverse_runs passes [] xs) g)
]

gone_from : {X : Type 0} (passes : X → Bool) (a : X) (run xs ys : List X) → passes a ≡ true → Gone a (reverse_runs passes run (xs ++ a ∷ ys)) (reverse_runs passes run (xs ++ ys))
gone_from passes a run [] ys in_ = rw in_ (gone_run passes a (a ∷ run) run ys (record { before = []; after = run; with_ = refl; less = refl }))
gone_from passes a run (x ∷ xs) ys in_ = elim (cases_Bool (passes x)) [
  | inl more ↦ rw more (gone_from passes a (x ∷ run) xs ys in_)
  | inr other ↦ rw other (gone_behind a run (x ∷ reverse_runs passes [] (xs ++ a ∷ ys)) (x ∷ reverse_runs passes [] (xs ++ ys))
      (gone_behind a (x ∷ []) (reverse_runs passes [] (xs ++ a ∷ ys)) (reverse_runs passes [] (xs ++ ys)) (gone_from passes a [] xs ys in_)))
]

-- ---- all reversals, from a level down to 1

abbrev pub down : {X : Type 0} → (level : X → ℕ) → ℕ → List X → List X
down level zero xs = xs
down level (suc n) xs = down level n (reverse_runs (λ x. leb (suc n) (level x)) [] xs)

pub down_renamed : {X Y : Type 0} (f : X → Y) (level : X → ℕ) (other : Y → ℕ) (n : ℕ) (xs : List X) → ((x : X) → other (f x) ≡ level x) → map f (down level n xs) ≡ down other n (map f xs)
down_renamed f level other zero xs same = refl
down_renamed f level other (suc n) xs same =
    down_renamed f level other n (reverse_runs (λ x. leb (suc n) (level x)) [] xs) same
    ∙ ap (λ l. down other n l) (renamed f (λ x. leb (suc n) (level x)) (λ y. leb (suc n) (other y)) [] xs (λ x. ap (λ (k : ℕ). leb (suc n) k) (same x)))

module _ {X : Type 0} (level : X → ℕ) (a : X) where
  abbrev reaches : ℕ → X → Bool
  reaches n x = leb n (level x)

  -- what has all the levels moves along
  gone_down : (n : ℕ) (xs ys : List X) → n ≤ level a → Gone a xs ys → Gone a (down level n xs) (down level n ys)
  gone_down zero xs ys high g = g
  gone_down (suc n) xs ys high g =
      let in_ : leb (suc n) (level a) ≡ true = le-leb (suc n) (level a) high in
      gone_down n (reverse_runs (reaches (suc n)) [] xs) (reverse_runs (reaches (suc n)) [] ys) (omega arith)
      (rw (g.with_, g.less) (gone_from (reaches (suc n)) a [] g.before g.after in_))

  -- what stands behind a lower one
  pub behind_down : (b : X) (n : ℕ) (xs ys : List X) → level b ≤ level a → Gone a (down level n (xs ++ b ∷ a ∷ ys)) (down level n (xs ++ b ∷ ys))
  behind_down b zero xs ys le = record { before = xs ++ b ∷ []; after = ys; with_ = sym (append_assoc xs (b ∷ []) (a ∷ ys)); less = sym (append_assoc xs (b ∷ []) ys) }
  behind_down b (suc n) xs ys le = elim (cases_Bool (reaches (suc n) a)) [
    | inl in_ ↦ gone_down (suc n) (xs ++ b ∷ a ∷ ys) (xs ++ b ∷ ys) (leb-true (suc n) (level a) in_)
        (record { before = xs ++ b ∷ []; after = ys; with_ = sym (append_assoc xs (b ∷ []) (a ∷ ys)); less = sym (append_assoc xs (b ∷ []) ys) })
    | inr out ↦
        let low : level a < suc n = leb-false (suc n) (level a) out in
        let out' : reaches (suc n) b ≡ false = lt-leb (suc n) (level b) (omega arith) in
        let with_ : reverse_runs (reaches (suc n)) [] (xs ++ b ∷ a ∷ ys) ≡ reverse_runs (reaches (suc n)) [] xs ++ b ∷ a ∷ reverse_runs (reaches (suc n)) [] ys =
        parted (reaches (suc n)) [] xs b (a ∷ ys) out' ∙ ap (λ l. reverse_runs (reaches (suc n)) [] xs ++ b ∷ l) (parted (reaches (suc n)) [] [] a ys out) in
        let less : reverse_runs (reaches (suc n)) [] (xs ++ b ∷ ys) ≡ reverse_runs (reaches (suc n)) [] xs ++ b ∷ reverse_runs (reaches (suc n)) [] ys = parted (reaches (suc n)) [] xs b ys out' in
        rw (with_, less) (behind_down b n (reverse_runs (reaches (suc n)) [] xs) (reverse_runs (reaches (suc n)) [] ys) le)
  ]

  -- or before one
  pub before_down : (b : X) (n : ℕ) (xs ys : List X) → level b ≤ level a → Gone a (down level n (xs ++ a ∷ b ∷ ys)) (down level n (xs ++ b ∷ ys))
  before_down b zero xs ys le = record { before = xs; after = b ∷ ys; with_ = refl; less = refl }
  before_down b (suc n) xs ys le = elim (cases_Bool (reaches (suc n) a)) [
    | inl in_ ↦ gone_down (suc n) (xs ++ a ∷ b ∷ ys) (xs ++ b ∷ ys) (leb-true (suc n) (level a) in_) (record { before = xs; after = b ∷ ys; with_ = refl; less = refl })
    | inr out ↦
        let low : level a < suc n = leb-false (suc n) (level a) out in
        let out' : reaches (suc n) b ≡ false = lt-leb (suc n) (level b) (omega arith) in
        let with_ : reverse_runs (reaches (suc n)) [] (xs ++ a ∷ b ∷ ys) ≡ reverse_runs (reaches (suc n)) [] xs ++ a ∷ b ∷ reverse_runs (reaches (suc n)) [] ys =
        parted (reaches (suc n)) [] xs a (b ∷ ys) out ∙ ap (λ l. reverse_runs (reaches (suc n)) [] xs ++ a ∷ l) (parted (reaches (suc n)) [] [] b ys out') in
        let less : reverse_runs (reaches (suc n)) [] (xs ++ b ∷ ys) ≡ reverse_runs (reaches (suc n)) [] xs ++ b ∷ reverse_runs (reaches (suc n)) [] ys = parted (reaches (suc n)) [] xs b ys out' in
        rw (with_, less) (before_down b n (reverse_runs (reaches (suc n)) [] xs) (reverse_runs (reaches (suc n)) [] ys) le)
  ]
