-- A styled tree is within the limit of boxes, or passes it, in one way alone.
use Rattle.std.proofs.Common.{◌≡◌, ◌⊎◌, inl, inr, refl, sym, ap, subst, arith, ℕ, zero, suc, ◌≤◌, Bool, true, false, leb, List, [], ◌∷◌, Some}
use Rattle.std.specs.List.{Contains}
use Rattle.std.proofs.lemmas.Bool.{leb-false, leb-true}
use Rattle.style_types.specs.Tree.{Nodes}
use Rattle.box_gen.specs.declared.limit.BoxLimit.{BoxLimit}
use Rattle.box_gen.specs.declared.limit.BoxLimit.TheVariants.{TooManyOrthogonal}
use Rattle.box_gen.specs.Limit.{IsWithinLimits, Passes}
use Rattle.box_gen.specs.Orthogonal.{IsLeastOf, root_past}

nothing_in : (number : ℕ) → Contains [] number → ⊥
nothing_in number (k, lt, is) = absurd (omega (arith, lt))

pub none_there : (numbers : List ℕ) (number : ℕ) → numbers ≡ [] → Contains numbers number → ⊥
none_there numbers number none has = let P : List ℕ → Type 0 = λ ns. Contains ns number in nothing_in number (subst P none has)

-- ---- the least of some numbers

abbrev IsEmptyOrHasLeast : List ℕ → Type 0
IsEmptyOrHasLeast numbers = (numbers ≡ []) ⊎ ((number : ℕ) × IsLeastOf numbers (Some number))

least_of_one : (number : ℕ) → IsLeastOf (number ∷ []) (Some number)
least_of_one number = ((0, omega arith, refl), at_one number) where
  at_one : (number other : ℕ) → Contains (number ∷ []) other → number ≤ other
  at_one number other (zero, lt, is) = omega (arith, is)
  at_one number other (suc k, lt, is) = absurd (omega (arith, lt))

least_of_more : (number least : ℕ) (numbers : List ℕ) → IsLeastOf numbers (Some least) → IsEmptyOrHasLeast (number ∷ numbers)
least_of_more number least numbers ((k, lt, is), low) = go (leb number least) refl where
  first : number ≤ least → (other : ℕ) → Contains (number ∷ numbers) other → number ≤ other
  first le other (zero, lt', is') = omega (arith, is')
  first le other (suc j, lt', is') = let more = low other (j, omega (arith, lt'), is') in omega (arith, le, more)

  later : least ≤ number → (other : ℕ) → Contains (number ∷ numbers) other → least ≤ other
  later le other (zero, lt', is') = omega (arith, le, is')
  later le other (suc j, lt', is') = low other (j, omega (arith, lt'), is')

  go : (b : Bool) → leb number least ≡ b → IsEmptyOrHasLeast (number ∷ numbers)
  go true is' = inr (number, ((0, omega arith, refl), first (leb-true number least is')))
  go false is' = let gt = leb-false number least is' in inr (least, ((suc k, omega (arith, lt), is), later (omega (arith, gt))))

least_or_none : (numbers : List ℕ) → IsEmptyOrHasLeast numbers
least_or_none [] = inl refl
least_or_none (number ∷ numbers) = go (least_or_none numbers) where
  go : IsEmptyOrHasLeast numbers → IsEmptyOrHasLeast (number ∷ numbers)
  go (inl none) = let P : List ℕ → Type 0 = λ ns. IsLeastOf (number ∷ ns) (Some number) in inr (number, subst P (sym none) (least_of_one number))
  go (inr (least, is)) = least_of_more number least numbers is

pub least_one : (one other : ℕ) → one ≤ other → other ≤ one → other ≡ one
least_one one other a b = omega (arith, a, b)

-- ---- the limit of boxes

module _ (nodes : Nodes) where
  pub not_within : (limit : BoxLimit) → Passes nodes limit → IsWithinLimits nodes → ⊥
  not_within (TooManyOrthogonal number) least within = none_there _ number within.turns least.0

  pub one_limit : (limit other : BoxLimit) → Passes nodes limit → Passes nodes other → other ≡ limit
  one_limit (TooManyOrthogonal number) (TooManyOrthogonal n) least least' = ap (λ (k : ℕ). TooManyOrthogonal k) (least_one number n (least.1 n least'.0) (least'.1 number least.0))

  abbrev pub IsWithinOrPasses : Type 0
  IsWithinOrPasses = IsWithinLimits nodes ⊎ ((limit : BoxLimit) × Passes nodes limit)

  by_turns : IsEmptyOrHasLeast (root_past nodes) → IsWithinOrPasses
  by_turns (inl turns) = inl (record { turns = turns })
  by_turns (inr (number, least)) = inr (TooManyOrthogonal number, least)

  pub within_or_passes : IsWithinOrPasses
  within_or_passes = by_turns (least_or_none (root_past nodes))
