-- Two readers side by side, which stop alike and read what is related.
use Rattle.std.proofs.Common.{◌≡◌, ℕ, zero, suc, Bool, true, false, cond, List, length, Ok, Err, refl, ap, subst, ◌∙◌}
use Rattle.reading.specs.Readers.{Read, ReadOr, ReaderOr, ◌>>=◌, give, follow, read_or, turns, repeat}
use Rattle.reading.proofs.SpellLaws.{ok, stop}

-- they stop alike, and what they read is so related
abbrev pub Agree : {E A B : Type 0} → (A → B → List ℕ → Type 0) → ReadOr E A → ReadOr E B → Type 0
Agree R (Ok x) (Ok y) = (x.1 ≡ y.1) × R x.0 y.0 x.1
Agree R (Ok x) (Err e) = ⊥
Agree R (Err e) (Ok y) = ⊥
Agree R (Err e) (Err f) = e ≡ f

-- another view of what the other reads
pub agree_view : {E A B : Type 0} (R : B → A → List ℕ → Type 0) (view : A → B) (r : ReadOr E A) → ((x : A) (rest : List ℕ) → r ≡ Ok (x, rest) → R (view x) x rest)
    → Agree R (r >>= λ (x : A × List ℕ). give (view x.0) x.1) r
agree_view R view (Ok x) is = (refl, is x.0 x.1 refl)
agree_view R view (Err e) is = refl

pub agree_follow : {E A B C D : Type 0} (R : A → B → List ℕ → Type 0) (S : C → D → List ℕ → Type 0) (r : ReadOr E A) (q : ReadOr E B) (f : A → ReaderOr E C) (g : B → ReaderOr E D)
    → Agree R r q → ((x : A) (y : B) (rest : List ℕ) → R x y rest → Agree S (f x rest) (g y rest)) → Agree S (r >>= λ (x : A × List ℕ). f x.0 x.1) (q >>= λ (y : B × List ℕ). g y.0 y.1)
agree_follow R S (Ok x) (Ok y) f g is later = subst (λ (rest : List ℕ). Agree S (f x.0 x.1) (g y.0 rest)) is.0 (later x.0 y.0 x.1 is.1)
agree_follow R S (Ok x) (Err e) f g is later = absurd is
agree_follow R S (Err e) (Ok y) f g is later = absurd is
agree_follow R S (Err e) (Err h) f g is later = is

-- the same reader, and behind it two others
pub agree_first : {E A C D : Type 0} (S : C → D → List ℕ → Type 0) (r : ReadOr E A) (f : A → ReaderOr E C) (g : A → ReaderOr E D)
    → ((x : A) (rest : List ℕ) → r ≡ Ok (x, rest) → Agree S (f x rest) (g x rest)) → Agree S (r >>= λ (x : A × List ℕ). f x.0 x.1) (r >>= λ (x : A × List ℕ). g x.0 x.1)
agree_first S (Ok x) f g later = later x.0 x.1 refl
agree_first S (Err e) f g later = refl

-- the second reader goes on, and never stops there
pub agree_then : {E A B D : Type 0} (R : A → B → List ℕ → Type 0) (S : A → D → List ℕ → Type 0) (r : ReadOr E A) (q : ReadOr E B) (g : B → List ℕ → D)
    → Agree R r q → ((x : A) (y : B) (rest : List ℕ) → R x y rest → S x (g y rest) rest) → Agree S r (q >>= λ (y : B × List ℕ). Ok (g y.0 y.1, y.1))
agree_then R S (Ok x) (Ok y) g is later = (is.0, subst (λ (rest : List ℕ). S x.0 (g y.0 rest) x.1) is.0 (later x.0 y.0 x.1 is.1))
agree_then R S (Ok x) (Err e) g is later = absurd is
agree_then R S (Err e) (Ok y) g is later = absurd is
agree_then R S (Err e) (Err h) g is later = is

pub agree_told : {E A B : Type 0} (R : A → B → List ℕ → Type 0) (told : List ℕ → E) (r : Read A) (q : Read B) → Agree R r q → Agree R (read_or told r) (read_or told q)
agree_told R told (Ok x) (Ok y) is = is
agree_told R told (Ok x) (Err e) is = absurd is
agree_told R told (Err e) (Ok y) is = absurd is
agree_told R told (Err e) (Err f) is = ap told is

pub agree_cond : {E A B : Type 0} (R : A → B → List ℕ → Type 0) (t : Bool) (r s : ReadOr E A) (q p : ReadOr E B) → Agree R r q → Agree R s p → Agree R (cond t r s) (cond t q p)
agree_cond R true r s q p is other = is
agree_cond R false r s q p is other = other

pub agree_turns : {E S T : Type 0} (R : S → T → List ℕ → Type 0) (goes : S → List ℕ → Bool) (turn_ : S → ReaderOr E S) (going : T → List ℕ → Bool) (turning : T → ReaderOr E T)
    → ((s : S) (t : T) (x : List ℕ) → R s t x → goes s x ≡ going t x) → ((s : S) (t : T) (x : List ℕ) → R s t x → Agree R (turn_ s x) (turning t x))
    → (fuel : ℕ) (s : S) (t : T) (x : List ℕ) → R s t x → Agree R (turns goes turn_ fuel s x) (turns going turning fuel t x)
unfolding turns
agree_turns R goes turn_ going turning alike once zero s t x is = (refl, is)
agree_turns R goes turn_ going turning alike once (suc fuel) s t x is =
    let here = agree_cond R (goes s x) (follow (turn_ s) (turns goes turn_ fuel) x) (Ok (s, x)) (follow (turning t) (turns going turning fuel) x) (Ok (t, x))
    (agree_follow R R (turn_ s x) (turning t x) (turns goes turn_ fuel) (turns going turning fuel) (once s t x is) (agree_turns R goes turn_ going turning alike once fuel))
    (refl, is) in
    subst (λ (b : Bool). Agree R (cond (goes s x) (follow (turn_ s) (turns goes turn_ fuel) x) (Ok (s, x))) (cond b (follow (turning t) (turns going turning fuel) x) (Ok (t, x)))) (alike s t x is) here

pub agree_repeat : {E S T : Type 0} (R : S → T → List ℕ → Type 0) (goes : S → List ℕ → Bool) (turn_ : S → ReaderOr E S) (going : T → List ℕ → Bool) (turning : T → ReaderOr E T)
    → ((s : S) (t : T) (x : List ℕ) → R s t x → goes s x ≡ going t x) → ((s : S) (t : T) (x : List ℕ) → R s t x → Agree R (turn_ s x) (turning t x))
    → (s : S) (t : T) (x : List ℕ) → R s t x → Agree R (repeat goes turn_ s x) (repeat going turning t x)
unfolding repeat
agree_repeat R goes turn_ going turning alike once s t x is = agree_turns R goes turn_ going turning alike once (suc (length x)) s t x is

-- two views of what they read are the same
pub agree_mapped : {E A B C : Type 0} (R : A → B → List ℕ → Type 0) (view : A → C) (other : B → C) (r : ReadOr E A) (q : ReadOr E B) → Agree R r q
    → ((x : A) (y : B) (rest : List ℕ) → R x y rest → view x ≡ other y) → (r >>= λ (x : A × List ℕ). give (view x.0) x.1) ≡ (q >>= λ (y : B × List ℕ). give {E = E} (other y.0) y.1)
agree_mapped {E = E} {C = C} R view other (Ok x) (Ok y) is same =
    ap (λ (c : C). ok {E = E} (c, x.1)) (same x.0 y.0 x.1 is.1) ∙ ap (λ (rest : List ℕ). ok {E = E} (other y.0, rest)) is.0
agree_mapped R view other (Ok x) (Err e) is same = absurd is
agree_mapped R view other (Err e) (Ok y) is same = absurd is
agree_mapped {C = C} R view other (Err e) (Err f) is same = ap (λ g. stop {A = C} g) is
