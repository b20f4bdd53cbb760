-- How lists of numbers compare: of two that differ one is less, and never both.
use Rattle.std.proofs.Common.{◌≡◌, ◌⊎◌, inl, inr, ℕ, ◌<◌, ◌≤◌, Bool, true, false, ◌||◌, ◌&&◌, ltb, eqb, List, [], ◌∷◌, refl, sym, ap, ◌∙◌, arith}
use Rattle.std.proofs.lemmas.Bool.{cases_Bool, cases_order, or_cases, or_parts, or_from, and_parts, and_cases, and_left, and_right, ltb-true, ltb-false, eqb-true, eqb-false, le-ltb, ne_eqb, false≢true}
use Rattle.cascade.specs.Claims.{is_less}

-- ---- by the first numbers, where it is known how those behind them compare

abbrev is_less_by : (m n : ℕ) (behind : Bool) → Bool
is_less_by m n behind = ltb m n || (eqb m n && behind)

when_less : (m n : ℕ) (behind : Bool) → is_less_by m n behind ≡ true → (m < n) ⊎ ((m ≡ n) × (behind ≡ true))
when_less m n behind is = elim (or_cases (ltb m n) (eqb m n && behind) is) [
  | inl less ↦ inl (ltb-true m n less)
  | inr both ↦ let parts : (eqb m n ≡ true) × (behind ≡ true) = and_parts (eqb m n) behind both in inr (eqb-true m n parts.0, parts.1)
]

when_not_less : (m n : ℕ) (behind : Bool) → is_less_by m n behind ≡ false → (n < m) ⊎ ((m ≡ n) × (behind ≡ false))
when_not_less m n behind is =
    let parts : (ltb m n ≡ false) × ((eqb m n && behind) ≡ false) = or_parts (ltb m n) (eqb m n && behind) is in
    let le : n ≤ m = ltb-false m n parts.0 in
    elim (cases_order m n) [
      | inl same ↦ elim (and_cases (eqb m n) behind parts.1) [
        | inl other ↦ absurd (eqb-false m n other same)
        | inr not_behind ↦ inr (same, not_behind)
      ]
      | inr differ ↦ elim differ [
        | inl less ↦ absurd (omega arith)
        | inr more ↦ inl more
      ]
    ]

not_less_at : (m n : ℕ) (behind : Bool) → (n < m) ⊎ ((m ≡ n) × (behind ≡ false)) → is_less_by m n behind ≡ false
not_less_at m n behind (inl more) = or_from (ltb m n) (eqb m n && behind) (le-ltb m n (omega arith)) (and_left (eqb m n) behind (ne_eqb m n (λ same. absurd (omega arith))))
not_less_at m n behind (inr same) = or_from (ltb m n) (eqb m n && behind) (le-ltb m n (omega (arith, same.0))) (and_right (eqb m n) behind same.1)

-- ---- lists

step : (m n : ℕ) (ms ns : List ℕ) → is_less (m ∷ ms) (n ∷ ns) ≡ is_less_by m n (is_less ms ns)
unfolding is_less
step m n ms ns = refl

less_than_some : (n : ℕ) (ns : List ℕ) → is_less [] (n ∷ ns) ≡ true
unfolding is_less
less_than_some n ns = refl

not_less_than_none : (ms : List ℕ) → is_less ms [] ≡ false
unfolding is_less
not_less_than_none [] = refl
not_less_than_none (m ∷ ms) = refl

pub less_one_way : (ms ns : List ℕ) → is_less ms ns ≡ true → is_less ns ms ≡ false
less_one_way [] ns less = not_less_than_none ns
less_one_way (m ∷ ms) [] less = absurd (false≢true (sym (not_less_than_none (m ∷ ms)) ∙ less))
less_one_way (m ∷ ms) (n ∷ ns) less = elim (when_less m n (is_less ms ns) (sym (step m n ms ns) ∙ less)) [
  | inl first ↦ step n m ns ms ∙ not_less_at n m (is_less ns ms) (inl first)
  | inr behind ↦ step n m ns ms ∙ not_less_at n m (is_less ns ms) (inr (sym behind.0, less_one_way ms ns behind.1))
]

pub not_less_than_itself : (ns : List ℕ) → is_less ns ns ≡ false
not_less_than_itself ns = elim (cases_Bool (is_less ns ns)) [
  | inl less ↦ less_one_way ns ns less
  | inr not_less ↦ not_less
]

pub not_less_through : (ms ns ps : List ℕ) → is_less ms ns ≡ false → is_less ns ps ≡ false → is_less ms ps ≡ false
not_less_through ms ns [] one other = not_less_than_none ms
not_less_through ms [] (p ∷ ps) one other = absurd (false≢true (sym other ∙ less_than_some p ps))
not_less_through [] (n ∷ ns) (p ∷ ps) one other = absurd (false≢true (sym one ∙ less_than_some n ns))
not_less_through (m ∷ ms) (n ∷ ns) (p ∷ ps) one other =
    step m p ms ps ∙ elim (when_not_less m n (is_less ms ns) (sym (step m n ms ns) ∙ one)) [
      | inl more ↦ elim (when_not_less n p (is_less ns ps) (sym (step n p ns ps) ∙ other)) [
        | inl further ↦ not_less_at m p (is_less ms ps) (inl (omega arith))
        | inr same ↦ not_less_at m p (is_less ms ps) (inl (omega (arith, same.0)))
      ]
      | inr same ↦ elim (when_not_less n p (is_less ns ps) (sym (step n p ns ps) ∙ other)) [
        | inl further ↦ not_less_at m p (is_less ms ps) (inl (omega (arith, same.0)))
        | inr again ↦ not_less_at m p (is_less ms ps) (inr (same.0 ∙ again.0, not_less_through ms ns ps same.1 again.1))
      ]
    ]

pub same_where_none_is_less : (ms ns : List ℕ) → is_less ms ns ≡ false → is_less ns ms ≡ false → ms ≡ ns
same_where_none_is_less [] [] one other = refl
same_where_none_is_less [] (n ∷ ns) one other = absurd (false≢true (sym one ∙ less_than_some n ns))
same_where_none_is_less (m ∷ ms) [] one other = absurd (false≢true (sym other ∙ less_than_some m ms))
same_where_none_is_less (m ∷ ms) (n ∷ ns) one other = elim (when_not_less m n (is_less ms ns) (sym (step m n ms ns) ∙ one)) [
  | inl more ↦ elim (when_not_less n m (is_less ns ms) (sym (step n m ns ms) ∙ other)) [
    | inl less ↦ absurd (omega arith)
    | inr same ↦ absurd (omega (arith, same.0))
  ]
  | inr same ↦ elim (when_not_less n m (is_less ns ms) (sym (step n m ns ms) ∙ other)) [
    | inl less ↦ absurd (omega (arith, same.0))
    | inr again ↦ ap (λ (k : ℕ). k ∷ ms) same.0 ∙ ap (λ (ks : List ℕ). n ∷ ks) (same_where_none_is_less ms ns same.1 again.1)
  ]
]
