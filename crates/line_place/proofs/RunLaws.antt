-- The first run of leaves.
use Rattle.std.proofs.Common.{◌≡◌, ◌∙◌, ap, sym, refl, arith, Bool, true, false, cond, ℕ, zero, suc, ◌+◌, ◌-◌, ◌<◌, List, [], ◌∷◌, length, take, drop}
use Rattle.std.proofs.lemmas.List.{drop_more}
use Rattle.line_place.specs.Leaves.{Leaf, nth_leaf, no_leaf}
use Rattle.line_place.specs.Runs.{goes_on, joined, runs}

-- how many of these leaves go on the run that this one begins
abbrev pub followers : Leaf → List Leaf → ℕ
followers leaf [] = 0
followers leaf (next ∷ leaves) = cond (goes_on leaf next) (suc (followers next leaves)) 0

abbrev pub run_size : List Leaf → ℕ
run_size [] = 0
run_size (leaf ∷ leaves) = suc (followers leaf leaves)

joined_by : (go : Bool) (leaf next : Leaf) (leaves : List Leaf) → goes_on leaf next ≡ go
    → runs (next ∷ leaves) ≡ take (suc (followers next leaves)) (next ∷ leaves) ∷ runs (drop (suc (followers next leaves)) (next ∷ leaves))
    → runs (leaf ∷ next ∷ leaves)
    ≡ take (suc (cond go (suc (followers next leaves)) 0)) (leaf ∷ next ∷ leaves) ∷ runs (drop (suc (cond go (suc (followers next leaves)) 0)) (leaf ∷ next ∷ leaves))
joined_by true leaf next leaves is rest = ap (joined leaf) rest ∙ rw is refl
joined_by false leaf next leaves is rest =
    ap (joined leaf) rest ∙ rw is (ap (λ (rs : List (List Leaf)). (leaf ∷ []) ∷ rs) (sym rest))

first_is : (leaf : Leaf) (leaves : List Leaf)
    → runs (leaf ∷ leaves) ≡ take (suc (followers leaf leaves)) (leaf ∷ leaves) ∷ runs (drop (suc (followers leaf leaves)) (leaf ∷ leaves))
first_is leaf [] = refl
first_is leaf (next ∷ leaves) = rw (joined_by (goes_on leaf next) leaf next leaves refl (first_is next leaves)) refl

pub front : (leaves : List Leaf) → 0 < length leaves → runs leaves ≡ take (run_size leaves) leaves ∷ runs (drop (run_size leaves) leaves)
front [] some = absurd (omega arith)
front (leaf ∷ leaves) some = first_is leaf leaves

-- a run as the code counts it
pub counted : (leaves : List Leaf) (n : ℕ) → 0 < length leaves → run_size leaves ≡ n → runs leaves ≡ take n leaves ∷ runs (drop n leaves)
counted leaves n some is = front leaves some ∙ ap (λ (k : ℕ). take k leaves ∷ runs (drop k leaves)) is

two : (a b : Leaf) (rest : List Leaf) (go : Bool) → goes_on a b ≡ go → run_size (a ∷ b ∷ rest) ≡ suc (cond go (suc (followers b rest)) 0)
two a b rest go is = rw is refl

-- one leaf more, where the run goes on to it and where it doesn't
step : (leaves : List Leaf) (n : ℕ) (go : Bool) → n + 1 < length leaves → go ≡ goes_on (nth_leaf leaves n) (nth_leaf leaves (n + 1))
    → run_size (drop n leaves) ≡ suc (cond go (run_size (drop (n + 1) leaves)) 0)
step leaves n go lt is =
    let a : drop n leaves ≡ nth_leaf leaves n ∷ drop (n + 1) leaves = drop_more leaves n no_leaf (omega arith) in
    let b : drop (n + 1) leaves ≡ nth_leaf leaves (n + 1) ∷ drop (n + 1 + 1) leaves = drop_more leaves (n + 1) no_leaf (omega arith) in
    ap run_size (a ∙ ap (λ (rest : List Leaf). nth_leaf leaves n ∷ rest) b)
    ∙ two (nth_leaf leaves n) (nth_leaf leaves (n + 1)) (drop (n + 1 + 1) leaves) go (sym is)
    ∙ ap (λ (rest : List Leaf). suc (cond go (run_size rest) 0)) (sym b)

pub goes_further : (leaves : List Leaf) (n : ℕ) (go : Bool) → 0 < n → n < length leaves → go ≡ goes_on (nth_leaf leaves (n - 1)) (nth_leaf leaves (n - 1 + 1)) → go ≡ true
    → run_size (drop (n - 1) leaves) ≡ suc (run_size (drop n leaves))
goes_further leaves n go some lt is on =
    let e : n - 1 + 1 ≡ n = omega arith in
    step leaves (n - 1) go (omega arith) is ∙ rw (on, e) refl

pub ends_there : (leaves : List Leaf) (n : ℕ) (go : Bool) → 0 < n → n < length leaves → go ≡ goes_on (nth_leaf leaves (n - 1)) (nth_leaf leaves (n - 1 + 1)) → go ≡ false
    → run_size (drop (n - 1) leaves) ≡ 1
ends_there leaves n go some lt is off = step leaves (n - 1) go (omega arith) is ∙ rw off refl

alone : (leaves : List Leaf) (n : ℕ) → n + 1 ≡ length leaves → run_size (drop n leaves) ≡ 1
alone [] n is = absurd (omega arith)
alone (leaf ∷ []) zero is = refl
alone (leaf ∷ next ∷ leaves) zero is = absurd (omega arith)
alone (leaf ∷ leaves) (suc n) is = alone leaves n (omega arith)

pub is_last : (leaves : List Leaf) (n : ℕ) → 0 < n → n ≡ length leaves → run_size (drop (n - 1) leaves) ≡ 1
is_last leaves n some is = alone leaves (n - 1) (omega arith)
