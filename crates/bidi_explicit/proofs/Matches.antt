-- The pass from the end finds the matching PDIs.
use Rattle.std.proofs.Common.{◌≡◌, ◌∙◌, sym, refl, ap, ℕ, zero, suc, ◌+◌, ◌<◌, ◌≤◌, List, [], ◌∷◌, get_or, drop, length, Option, Some, None, arith}
use Rattle.std.specs.Option.{option_map}
use Rattle.wm_chars.specs.declared.classes.BidiClass.{BidiClass}
use Rattle.wm_chars.specs.declared.classes.BidiClass.TheVariants.{L}
use Rattle.bidi_explicit.specs.declared.isolates.Kind.{Kind}
use Rattle.bidi_explicit.specs.declared.isolates.Kind.TheVariants.{Strong, Opens, Closes, Other}
use Rattle.bidi_explicit.specs.Isolates.{kind_of, closing, closing_at}
use Rattle.bidi_explicit.specs.Sequences.{distance, match_at}
use Rattle.bidi_explicit.specs.Links.{first_of, rest_of, closers, closers_at, matched_by}

abbrev nth : List ℕ → ℕ → Option ℕ
nth [] n = None
nth (x ∷ xs) zero = Some x
nth (x ∷ xs) (suc n) = nth xs n

nth_rest : (xs : List ℕ) (n : ℕ) → nth xs (suc n) ≡ nth (rest_of xs) n
nth_rest [] n = refl
nth_rest (x ∷ xs) n = refl

nth_zero : (xs : List ℕ) → nth xs zero ≡ first_of xs
nth_zero [] = refl
nth_zero (x ∷ xs) = refl

shifted : (i : ℕ) (o : Option ℕ) → option_map (λ n. i + 1 + n) o ≡ option_map (λ n. i + n) (option_map suc o)
shifted i None = refl
shifted i (Some n) = ap (λ (k : ℕ). Some k) (omega arith)

abbrev Finds : List BidiClass → Type 0
Finds cs = (i d : ℕ) → nth (closers i cs) d ≡ option_map (λ n. i + n) (closing cs d)

module _ (cs : List BidiClass) (found : Finds cs) where
  step : (k : Kind) (i d : ℕ) → nth (closers_at k i (closers (i + 1) cs)) d ≡ option_map (λ n. i + n) (closing_at k (closing cs) d)
  step (Strong level) i d = found (i + 1) d ∙ shifted i (closing cs d)
  step Opens i d = sym (nth_rest (closers (i + 1) cs) d) ∙ found (i + 1) (suc d) ∙ shifted i (closing cs (suc d))
  step Closes i zero = ap (λ (k : ℕ). Some k) (omega arith)
  step Closes i (suc d) = found (i + 1) d ∙ shifted i (closing cs d)
  step Other i d = found (i + 1) d ∙ shifted i (closing cs d)

finds : (cs : List BidiClass) → Finds cs
finds [] i d = refl
finds (c ∷ cs) i d = step cs (finds cs) (kind_of c) i d

-- the nearest of them is the matching PDI of an initiator in front
pub matched : (classes : List BidiClass) (p : ℕ) (c : BidiClass) → get_or classes p L ≡ c → matched_by (kind_of c) (closers (p + 1) (drop (p + 1) classes)) ≡ match_at classes p
matched classes p c e = rw e (go (kind_of c))
  where
    go : (k : Kind) → matched_by k (closers (p + 1) (drop (p + 1) classes)) ≡ option_map (λ n. p + 1 + n) (distance k (drop (p + 1) classes))
    go (Strong level) = refl
    go Opens = sym (nth_zero (closers (p + 1) (drop (p + 1) classes))) ∙ finds (drop (p + 1) classes) (p + 1) 0
    go Closes = refl
    go Other = refl

-- each of them is a place of the text
abbrev pub AreWithin : ℕ → ℕ → List ℕ → Type 0
AreWithin low high [] = Unit {0}
AreWithin low high (x ∷ xs) = (low ≤ x) × (x < high) × AreWithin low high xs

lower : (low low' high : ℕ) (xs : List ℕ) → low' ≤ low → AreWithin low high xs → AreWithin low' high xs
lower low low' high [] l a = tt
lower low low' high (x ∷ xs) l a = let b : low ≤ x = a.0 in (omega arith, a.1, lower low low' high xs l a.2)

within_rest : (low high : ℕ) (xs : List ℕ) → AreWithin low high xs → AreWithin low high (rest_of xs)
within_rest low high [] a = tt
within_rest low high (x ∷ xs) a = a.2

pub closers_within : (cs : List BidiClass) (i high : ℕ) → i + length cs ≤ high → AreWithin i high (closers i cs)
closers_within [] i high l = tt
closers_within (c ∷ cs) i high l = go (kind_of c) (lower (i + 1) i high (closers (i + 1) cs) (omega arith) (closers_within cs (i + 1) high (omega arith)))
  where
    go : (k : Kind) → AreWithin i high (closers (i + 1) cs) → AreWithin i high (closers_at k i (closers (i + 1) cs))
    go (Strong level) a = a
    go Opens a = within_rest i high (closers (i + 1) cs) a
    go Closes a = (omega arith, omega arith, a)
    go Other a = a
