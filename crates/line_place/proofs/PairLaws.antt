-- Each fragment that begins ends.
use Rattle.std.proofs.Common.{◌≡◌, ap, sym, refl, arith, subst, Bool, true, false, not, cond, ℕ, zero, suc, ◌+◌, ◌-◌, ◌<◌, ◌≤◌, List, [], ◌∷◌, ◌++◌, length, map, reverse, Option, Some, None, ◌⊎◌, inl, inr, append_assoc}
use Rattle.std.specs.List.{filter}
use Rattle.std.proofs.lemmas.List.{length-reverse}
use Rattle.line_place.specs.declared.line.LineBox.{LineBox}
use Rattle.line_place.specs.Leaves.{Leaf}
use Rattle.line_place.specs.Marks.{Mark, begins, ends, shows, at_left, at_right, between, box_at, chain, chain_below, has, inside_of, left_behind, leftmost, marks_after, rightmost}
use Rattle.line_place.specs.Reach.{AreNested, ArePaired, CanStand, IsBefore, open_behind}
use Rattle.line_place.proofs.Chains.{chain_of, depth, one_deeper, other_deeper, more_before}

-- two places are one, or the one lies before the other
pub lies : (p q : ℕ) → (p ≡ q) ⊎ ((p < q) ⊎ (q < p))
lies zero zero = inl refl
lies zero (suc q) = inr (inl (omega arith))
lies (suc p) zero = inr (inr (omega arith))
lies (suc p) (suc q) = elim (lies p q) [ inl e ↦ inl (ap suc e) | inr lt ↦ inr (elim lt [ inl l ↦ inl (omega (arith, l)) | inr l ↦ inr (omega (arith, l)) ]) ]

-- as many boxes stand round the one and not round the other as more stand round it
abbrev Balanced : List LineBox → (one other : Option ℕ) → Type 0
Balanced boxes one other = length (left_behind boxes one other) + length (chain boxes other) ≡ length (left_behind boxes other one) + length (chain boxes one)

by_one : (boxes : List LineBox) (p : ℕ) (other : Option ℕ) → AreNested boxes → p < length boxes → IsBefore p other
    → Balanced boxes (box_at boxes p).outer other → Balanced boxes (Some p) other
by_one boxes p other nested lt below h =
    let a = ap length (one_deeper boxes p other nested lt below) in
    let b = ap length (other_deeper boxes p other nested lt below) in
    let d = ap length (chain_of boxes p nested lt) in
    omega (arith, a, b, d, h)

turned : (boxes : List LineBox) (one other : Option ℕ) → Balanced boxes one other → Balanced boxes other one
turned boxes one other h = sym h

outer_depth : (out : Option ℕ) (p : ℕ) → IsBefore p out → depth out ≤ p
outer_depth None p below = omega arith
outer_depth (Some q) p below = omega (arith, below)

balanced : (boxes : List LineBox) (fuel : ℕ) (one other : Option ℕ) → AreNested boxes → IsBefore (length boxes) one → IsBefore (length boxes) other
    → depth one + depth other ≤ fuel → Balanced boxes one other
balanced boxes fuel None None nested h k le = refl
balanced boxes zero (Some p) other nested h k le = absurd (omega (arith, le))
balanced boxes zero None (Some q) nested h k le = absurd (omega (arith, le))
balanced boxes (suc fuel) (Some p) None nested h k le =
    let below = nested p h in
    let d = outer_depth (box_at boxes p).outer p below in
    by_one boxes p None nested h tt (balanced boxes fuel (box_at boxes p).outer None nested (more_before (box_at boxes p).outer p (length boxes) below (omega (arith, h))) k (omega (arith, d, le)))
balanced boxes (suc fuel) None (Some q) nested h k le =
    let below = nested q k in
    let d = outer_depth (box_at boxes q).outer q below in
    turned boxes (Some q) None (by_one boxes q None nested k tt
    (turned boxes None (box_at boxes q).outer (balanced boxes fuel None (box_at boxes q).outer nested h (more_before (box_at boxes q).outer q (length boxes) below (omega (arith, k))) (omega (arith, d, le)))))
balanced boxes (suc fuel) (Some p) (Some q) nested h k le =
    let o = nested p h in
    let i = nested q k in
    let d = outer_depth (box_at boxes p).outer p o in
    let e = outer_depth (box_at boxes q).outer q i in
    elim (lies p q) [
      | inl same ↦ let P : ℕ → Type 0 = λ x. Balanced boxes (Some p) (Some x) in subst P same refl
      | inr lt ↦ elim lt [
        | inl less ↦ turned boxes (Some q) (Some p) (by_one boxes q (Some p) nested k less
            (turned boxes (Some p) (box_at boxes q).outer (balanced boxes fuel (Some p) (box_at boxes q).outer nested h (more_before (box_at boxes q).outer q (length boxes) i (omega (arith, k))) (omega (arith, e, le)))))
        | inr more ↦ by_one boxes p (Some q) nested h more
            (balanced boxes fuel (box_at boxes p).outer (Some q) nested (more_before (box_at boxes p).outer p (length boxes) o (omega (arith, h))) k (omega (arith, d, le)))
      ]
    ]

kept_length : (keep : Bool) (x : ℕ) (xs : List ℕ) (n : ℕ) → length xs ≤ n → length (cond keep (x ∷ xs) xs) ≤ suc n
kept_length true x xs n le = omega (arith, le)
kept_length false x xs n le = omega (arith, le)

filter_length : (f : ℕ → Bool) (xs : List ℕ) → length (filter f xs) ≤ length xs
filter_length f [] = omega arith
filter_length f (x ∷ xs) = kept_length (f x) x (filter f xs) (length xs) (filter_length f xs)

-- ---- rows of marks

after_ends : (n : ℕ) (ps : List ℕ) (rest : List Mark) → length ps ≤ n → ArePaired (n - length ps) rest → ArePaired n (map (λ p. ends p false) ps ++ rest)
after_ends n [] rest le h = let P : ℕ → Type 0 = λ k. ArePaired k rest in let e : n - 0 ≡ n = omega arith in subst P e h
after_ends n (p ∷ ps) rest le h =
    let P : ℕ → Type 0 = λ k. ArePaired k rest in
    let e : n - suc (length ps) ≡ n - 1 - length ps = omega arith in
    (omega (arith, le), after_ends (n - 1) ps rest (omega (arith, le)) (subst P e h))

after_begins : (n : ℕ) (ps : List ℕ) (rest : List Mark) → ArePaired (length ps + n) rest → ArePaired n (map (λ p. begins p false) ps ++ rest)
after_begins n [] rest h = let P : ℕ → Type 0 = λ k. ArePaired k rest in let e : 0 + n ≡ n = omega arith in subst P e h
after_begins n (p ∷ ps) rest h =
    let P : ℕ → Type 0 = λ k. ArePaired k rest in
    let e : suc (length ps) + n ≡ length ps + suc n = omega arith in
    (tt, after_begins (suc n) ps rest (subst P e h))

after_between : (boxes : List LineBox) (one other : Option ℕ) (rest : List Mark) → AreNested boxes → IsBefore (length boxes) one → IsBefore (length boxes) other
    → ArePaired (length (chain boxes other)) rest → ArePaired (length (chain boxes one)) (between boxes one other ++ rest)
after_between boxes one other rest nested h k paired =
    let P : ℕ → Type 0 = λ n. ArePaired n rest in
    let Q : List Mark → Type 0 = λ ms. ArePaired (length (chain boxes one)) ms in
    let le = filter_length (λ p. not (has (chain boxes other) p)) (chain boxes one) in
    let b = balanced boxes (depth one + depth other) one other nested h k (omega arith) in
    let r = length-reverse (left_behind boxes other one) in
    let e : length (chain boxes other) ≡ length (reverse (left_behind boxes other one)) + (length (chain boxes one) - length (left_behind boxes one other)) = omega (arith, le, b, r) in
    subst Q (sym (append_assoc (map (λ p. ends p false) (left_behind boxes one other)) (map (λ p. begins p false) (reverse (left_behind boxes other one))) rest))
    (after_ends (length (chain boxes one)) (left_behind boxes one other) _ le
    (after_begins (length (chain boxes one) - length (left_behind boxes one other)) (reverse (left_behind boxes other one)) rest (subst P e paired)))

abbrev pub AreRunsIn : (count : ℕ) → List (List Leaf) → Type 0
AreRunsIn count [] = Unit {0}
AreRunsIn count (run ∷ runs) = IsBefore count (inside_of run) × AreRunsIn count runs

no_rest : (ms : List Mark) → ms ++ [] ≡ ms
no_rest [] = refl
no_rest (m ∷ ms) = ap (λ (l : List Mark). m ∷ l) (no_rest ms)

-- boxes that are round nothing
none_round : (boxes : List LineBox) (n : ℕ) → chain_below boxes n None ≡ []
none_round boxes zero = refl
none_round boxes (suc n) = none_round boxes n

pub after_paired : (boxes : List LineBox) (inside : Option ℕ) (runs : List (List Leaf)) → AreNested boxes → IsBefore (length boxes) inside → AreRunsIn (length boxes) runs
    → ArePaired (length (chain boxes inside)) (marks_after boxes inside runs)
after_paired boxes inside [] nested h k =
    let P : List Mark → Type 0 = λ ms. ArePaired (length (chain boxes inside)) ms in
    subst P (no_rest (between boxes inside None)) (after_between boxes inside None [] nested h tt (ap length (none_round boxes (length boxes))))
after_paired boxes inside (run ∷ runs) nested h k =
    after_between boxes inside (inside_of run) (shows run ∷ marks_after boxes (inside_of run) runs) nested h k.0 (tt, after_paired boxes (inside_of run) runs nested k.0 k.1)

-- ---- which fragment is the leftmost one doesn't matter

left_one : (n : ℕ) (before : List Mark) (mark : Mark) → CanStand n mark → CanStand n (at_left before mark)
left_one n before (begins p edge) h = tt
left_one n before (ends p edge) h = h
left_one n before (shows run) h = tt

right_one : (n : ℕ) (after : List Mark) (mark : Mark) → CanStand n mark → CanStand n (at_right after mark)
right_one n after (begins p edge) h = tt
right_one n after (ends p edge) h = h
right_one n after (shows run) h = tt

left_open : (n : ℕ) (before : List Mark) (mark : Mark) → open_behind n mark ≡ open_behind n (at_left before mark)
left_open n before (begins p edge) = refl
left_open n before (ends p edge) = refl
left_open n before (shows run) = refl

right_open : (n : ℕ) (after : List Mark) (mark : Mark) → open_behind n mark ≡ open_behind n (at_right after mark)
right_open n after (begins p edge) = refl
right_open n after (ends p edge) = refl
right_open n after (shows run) = refl

left_paired : (n : ℕ) (before marks : List Mark) → ArePaired n marks → ArePaired n (leftmost before marks)
left_paired n before [] h = h
left_paired n before (mark ∷ marks) h =
    let P : ℕ → Type 0 = λ k. ArePaired k (leftmost (before ++ mark ∷ []) marks) in
    (left_one n before mark h.0, subst P (left_open n before mark) (left_paired (open_behind n mark) (before ++ mark ∷ []) marks h.1))

right_paired : (n : ℕ) (marks : List Mark) → ArePaired n marks → ArePaired n (rightmost marks)
right_paired n [] h = h
right_paired n (mark ∷ marks) h =
    let P : ℕ → Type 0 = λ k. ArePaired k (rightmost marks) in
    (right_one n marks mark h.0, subst P (right_open n marks mark) (right_paired (open_behind n mark) marks h.1))

pub paired : (boxes : List LineBox) (runs : List (List Leaf)) → AreNested boxes → AreRunsIn (length boxes) runs → ArePaired 0 (leftmost [] (rightmost (marks_after boxes None runs)))
paired boxes runs nested h =
    let P : ℕ → Type 0 = λ n. ArePaired n (leftmost [] (rightmost (marks_after boxes None runs))) in
    subst P (ap length (none_round boxes (length boxes)))
    (left_paired (length (chain boxes None)) [] (rightmost (marks_after boxes None runs)) (right_paired (length (chain boxes None)) (marks_after boxes None runs) (after_paired boxes None runs nested tt h)))
