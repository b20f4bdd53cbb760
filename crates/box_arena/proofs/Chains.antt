-- Lists of siblings.
use Rattle.std.proofs.Common.{◌≡◌, ◌∙◌, ◌≢◌, ◌⊎◌, ℕ, ◌+◌, ◌≤◌, nat_eq, Bool, true, false, List, [], ◌∷◌, length, Option, Some, None, refl, sym, ap, subst, arith, inl, inr}
use Rattle.std.specs.Prelude.{if◌then◌else◌}
use Rattle.std.proofs.lemmas.Bool.{cases_eq}
use Rattle.std.proofs.lemmas.Bool.Decides.{nat_tests}
use Rattle.std.proofs.lemmas.Option.{none-some, same_Some}
use Rattle.box_arena.specs.Links.{Linking, Chain, Has, IsIn, IsLinked, first_of, next_of, parent_of, put_before, without, is_it, behind}

pub same_option : (one other : Option ℕ) → (one ≡ other) ⊎ (one ≡ other → ⊥)
same_option None None = inl refl
same_option None (Some b) = inr (none-some b)
same_option (Some a) None = inr (λ is. none-some a (sym is))
same_option (Some a) (Some b) = elim (cases_eq a b) [
  | inl same ↦ inl (ap Some same)
  | inr apart ↦ inr (λ is. apart (same_Some a b is))
]

-- a chain is given by where it begins
pub chain_same : (s : Linking) (from : Option ℕ) (ks ls : List ℕ) → Chain s from ks → Chain s from ls → ks ≡ ls
chain_same s from [] [] one other = refl
chain_same s from [] (l ∷ ls) one (is, rest) = absurd (none-some l (sym one ∙ is))
chain_same s from (k ∷ ks) [] (is, rest) other = absurd (none-some k (sym other ∙ is))
chain_same s from (k ∷ ks) (l ∷ ls) (is, rest) (at, tail) =
    let same : k ≡ l = same_Some k l (sym is ∙ at) in
    let P : ℕ → Type 0 = λ j. Chain s (next_of (s j)) ls in
    let rests : ks ≡ ls = chain_same s (next_of (s k)) ks ls rest (subst P (sym same) tail) in
    ap (λ j. j ∷ ks) same ∙ ap (λ js. l ∷ js) rests

-- from one of its boxes on a chain is no longer than whole
chain_from : (s : Linking) (from : Option ℕ) (ks : List ℕ) (k : ℕ) → Chain s from ks → Has ks k → (rest : List ℕ) × Chain s (next_of (s k)) rest × (length rest + 1 ≤ length ks)
chain_from s from [] k chain has = absurd has
chain_from s from (j ∷ ks) k (is, rest) (inl same) =
    let P : ℕ → Type 0 = λ i. Chain s (next_of (s i)) ks in
    (ks, subst P same rest, omega arith)
chain_from s from (j ∷ ks) k (is, rest) (inr later) =
    let (tail, chain, short) = chain_from s (next_of (s j)) ks k rest later in
    (tail, chain, omega arith)

-- no box stands behind itself
pub chain_apart : (s : Linking) (k : ℕ) (ks : List ℕ) → Chain s (next_of (s k)) ks → Has ks k → ⊥
chain_apart s k ks chain has =
    let (rest, tail, short) = chain_from s (next_of (s k)) ks k chain has in
    let same = chain_same s (next_of (s k)) rest ks tail chain in
    let long : length rest ≡ length ks = ap length same in
    absurd (omega arith)

-- what stands behind one of a chain is in the chain, behind its first
pub chain_next : (s : Linking) (ks : List ℕ) (k q c : ℕ) → Chain s (next_of (s k)) ks → Has (k ∷ ks) q → next_of (s q) ≡ Some c → Has ks c
chain_next s [] k q c chain (inl same) next = absurd (none-some c (sym chain ∙ ap (λ j. next_of (s j)) same ∙ next))
chain_next s [] k q c chain (inr later) next = absurd later
chain_next s (j ∷ ks) k q c (is, rest) (inl same) next = inl (same_Some j c (sym is ∙ ap (λ i. next_of (s i)) same ∙ next))
chain_next s (j ∷ ks) k q c (is, rest) (inr later) next = inr (chain_next s ks j q c rest later next)

-- the boxes of a chain that begins in a ring are in the ring
pub chain_inside : (s : Linking) → IsLinked s → (p : ℕ) (o : Option ℕ) (ks : List ℕ) (k : ℕ) → IsIn s p o → Chain s (behind s p o) ks → Has ks k → parent_of (s k) ≡ Some p
chain_inside s linked p o [] k inside chain has = absurd has
chain_inside s linked p o (j ∷ ks) k inside (is, rest) (inl same) =
    let P : Option ℕ → Type 0 = λ n. IsIn s p n in
    let Q : ℕ → Type 0 = λ i. parent_of (s i) ≡ Some p in
    subst Q same (subst P is (linked.on p o inside))
chain_inside s linked p o (j ∷ ks) k inside (is, rest) (inr later) =
    let P : Option ℕ → Type 0 = λ n. IsIn s p n in
    chain_inside s linked p (Some j) ks k (subst P is (linked.on p o inside)) rest later

-- a chain stays where its boxes keep what stands behind them
pub chain_stays : (s t : Linking) (from : Option ℕ) (ks : List ℕ) → ((k : ℕ) → Has ks k → next_of (t k) ≡ next_of (s k)) → Chain s from ks → Chain t from ks
chain_stays s t from [] same is = is
chain_stays s t from (k ∷ ks) same (is, rest) =
    let P : Option ℕ → Type 0 = λ o. Chain t o ks in
    (is, subst P (sym (same k (inl refl))) (chain_stays s t (next_of (s k)) ks (λ j has. same j (inr has)) rest))

-- no child is its own next sibling
pub next_apart : (s : Linking) → IsLinked s → (p c : ℕ) → parent_of (s c) ≡ Some p → next_of (s c) ≡ Some c → ⊥
next_apart s linked p c inside next =
    let all = linked.children p in
    let (rest, chain, short) = chain_from s (first_of (s p)) all.list c all.chain (all.whole c inside) in
    again rest chain
  where
    again : (rest : List ℕ) → Chain s (next_of (s c)) rest → ⊥
    again [] chain = none-some c (sym chain ∙ next)
    again (k ∷ ks) (is, more) = chain_apart s c (k ∷ ks) (is, more) (inl (same_Some k c (sym is ∙ next)))

pub eq_true : (a b : ℕ) → nat_eq a b ≡ true → a ≡ b
eq_true a b is = grind (arith, nat_tests)

pub eq_false : (a b : ℕ) → nat_eq a b ≡ false → a ≢ b
eq_false a b is = grind (arith, nat_tests)

-- a list with one more has that one, and all that it had
pub put_has : (before : Option ℕ) (c : ℕ) (ks : List ℕ) → Has (put_before before c ks) c
put_has before c [] = inl refl
put_has before c (k ∷ ks) = by_test (is_it before k) (put_has before c ks)
  where
    by_test : (test : Bool) → Has (put_before before c ks) c → Has (if test then c ∷ k ∷ ks else k ∷ put_before before c ks) c
    by_test true later = inl refl
    by_test false later = inr later

pub put_keeps : (before : Option ℕ) (c : ℕ) (ks : List ℕ) (j : ℕ) → Has ks j → Has (put_before before c ks) j
put_keeps before c [] j has = absurd has
put_keeps before c (k ∷ ks) j has = by_test (is_it before k) (put_keeps before c ks j) has
  where
    by_test : (test : Bool) → (Has ks j → Has (put_before before c ks) j) → Has (k ∷ ks) j → Has (if test then c ∷ k ∷ ks else k ∷ put_before before c ks) j
    by_test true rest here = inr here
    by_test false rest (inl same) = inl same
    by_test false rest (inr later) = inr (rest later)

-- a list without one has all others
pub without_keeps : (c : ℕ) (ks : List ℕ) (j : ℕ) → j ≢ c → Has ks j → Has (without c ks) j
without_keeps c [] j apart has = absurd has
without_keeps c (k ∷ ks) j apart has = by_test (nat_eq k c) refl (without_keeps c ks j apart) has
  where
    by_test : (test : Bool) → nat_eq k c ≡ test → (Has ks j → Has (without c ks) j) → Has (k ∷ ks) j → Has (if test then ks else k ∷ without c ks) j
    by_test true is rest (inl same) = absurd (apart (sym same ∙ eq_true k c is))
    by_test true is rest (inr later) = later
    by_test false is rest (inl same) = inl same
    by_test false is rest (inr later) = inr (rest later)
