-- How often a number is in a list.
use Rattle.std.proofs.Common.{◌≡◌, ◌∙◌, ℕ, ◌+◌, ◌<◌, ◌≤◌, Bool, true, false, List, [], ◌∷◌, ◌++◌, take, drop, refl, ap, sym, subst, arith, if◌then◌else◌, inl, inr}
use Rattle.std.specs.Prelude.{nat_eq, ◌≢◌, ◌||◌, Option, Some, None, option_to_list}
use Rattle.std.specs.List.{list_any}
use Rattle.std.proofs.lemmas.Bool.{eq-eqb, ne_eqb}
use Rattle.std.proofs.lemmas.Bool.Decides.{eqb_tells}
use Rattle.std.proofs.lemmas.List.{take-append-drop}
use Rattle.dom_store.specs.Edits.{with_moved, with_put, without}
use Rattle.tree_laws.specs.Wholeness.{times}

abbrev pub hit : (number other : ℕ) → ℕ
hit number other = if nat_eq number other then 1 else 0

pub hit_same : (number : ℕ) → hit number number ≡ 1
hit_same number = ap (λ (b : Bool). if b then 1 else 0) (eq-eqb number number refl)

pub hit_apart : (number other : ℕ) → number ≢ other → hit number other ≡ 0
hit_apart number other apart = ap (λ (b : Bool). if b then 1 else 0) (ne_eqb number other apart)

pub hit_turned : (number other : ℕ) → hit number other ≡ hit other number
hit_turned number other = elim (eqb_tells number other) [
  | inl (here, same) ↦ subst (λ (n : ℕ). hit number n ≡ hit n number) same refl
  | inr (there, apart) ↦ hit_apart number other apart ∙ sym (hit_apart other number (λ same. apart (sym same)))
]

pub times-append : (number : ℕ) (one two : List ℕ) → times number (one ++ two) ≡ times number one + times number two
times-append number [] two = omega arith
times-append number (other ∷ one) two = omega (arith, times-append number one two)

-- ---- a number that is taken out

kept : (number child other : ℕ) (others : List ℕ) (out : Bool) → nat_eq other number ≡ out → times child (without number others) ≤ times child others → times child (without number (other ∷ others)) ≤ times child (other ∷ others)
kept number child other others true is less = rw is (omega (arith, less))
kept number child other others false is less = rw is (omega (arith, less))

pub times-without : (number child : ℕ) (children : List ℕ) → times child (without number children) ≤ times child children
times-without number child [] = omega arith
times-without number child (other ∷ children) = kept number child other children (nat_eq other number) refl (times-without number child children)

more_kept : (number child other : ℕ) (others : List ℕ) → child ≢ number → times child others ≤ times child (without number others) → times child (other ∷ others) ≤ times child (without number (other ∷ others))
more_kept number child other others apart more = elim (eqb_tells other number) [
  | inl (here, same) ↦ rw here (omega (arith, more, hit_apart child other (λ is. apart (is ∙ same))))
  | inr (there, differ) ↦ rw there (omega (arith, more))
]

-- the others stay
pub others_without : (number child : ℕ) (children : List ℕ) → child ≢ number → times child children ≤ times child (without number children)
others_without number child [] apart = omega arith
others_without number child (other ∷ children) apart = more_kept number child other children apart (others_without number child children apart)

left : (number other : ℕ) (others : List ℕ) → times number (without number others) ≡ 0 → times number (without number (other ∷ others)) ≡ 0
left number other others none = elim (eqb_tells other number) [
  | inl (here, same) ↦ rw here none
  | inr (there, apart) ↦ rw there (omega (arith, hit_apart number other (λ same. apart (sym same)), none))
]

pub none_without : (number : ℕ) (children : List ℕ) → times number (without number children) ≡ 0
none_without number [] = refl
none_without number (other ∷ children) = left number other children (none_without number children)

-- ---- numbers that are put at an index

pub times-put : (index number : ℕ) (numbers children : List ℕ) → times number (with_put index numbers children) ≡ times number numbers + times number children
times-put index number numbers children =
    let parts : times number (take index children) + times number (drop index children) ≡ times number children =
    sym (times-append number (take index children) (drop index children)) ∙ ap (times number) (take-append-drop index children) in
    let put : times number (with_put index numbers children) ≡ times number (take index children ++ numbers) + times number (drop index children) = times-append number (take index children ++ numbers) (drop index children) in
    omega (arith, put, times-append number (take index children) numbers, parts)

-- a child that is moved is there once then
pub times_moved : (number index : ℕ) (children : List ℕ) → times number (with_moved number index children) ≡ 1
times_moved number index children = omega (arith, times-put index number (number ∷ []) (without number children), none_without number children, hit_same number)

-- the others are there no more often
pub others_moved : (number index child : ℕ) (children : List ℕ) → child ≢ number → times child (with_moved number index children) ≤ times child children
others_moved number index child children apart =
    omega (arith, times-put index child (number ∷ []) (without number children), times-without number child children, hit_apart child number apart)

-- ---- whether it is in the list

either : (first : Bool) (rest : Bool) (many : ℕ) → (rest ≡ false → many ≡ 0) → (first || rest) ≡ false → (if first then 1 else 0) + many ≡ 0
either true rest many none is = absurd cc
either false rest many none is = omega (arith, none is)

pub none_where : (number : ℕ) (numbers : List ℕ) → list_any (nat_eq number) numbers ≡ false → times number numbers ≡ 0
none_where number [] is = refl
none_where number (other ∷ numbers) is = either (nat_eq number other) (list_any (nat_eq number) numbers) (times number numbers) (none_where number numbers) is

in_either : (first : Bool) (rest : Bool) (many : ℕ) → (rest ≡ true → 0 < many) → (first || rest) ≡ true → 0 < (if first then 1 else 0) + many
in_either true rest many some is = omega arith
in_either false rest many some is = omega (arith, some is)

pub some_where : (number : ℕ) (numbers : List ℕ) → list_any (nat_eq number) numbers ≡ true → 0 < times number numbers
some_where number [] is = absurd cc
some_where number (other ∷ numbers) is = in_either (nat_eq number other) (list_any (nat_eq number) numbers) (times number numbers) (some_where number numbers) is

-- ---- a number that is there

found : (number other : ℕ) (others : List ℕ) (t : Bool) → nat_eq number other ≡ t → (list_any (nat_eq number) others ≡ true → 1 ≤ times number others) → list_any (nat_eq number) (other ∷ others) ≡ true → 1 ≤ times number (other ∷ others)
found number other others true is more there = rw is (omega arith)
found number other others false is more there = rw is (omega (arith, more (ap (λ (b : Bool). b || list_any (nat_eq number) others) (sym is) ∙ there)))

pub times_there : (number : ℕ) (others : List ℕ) → list_any (nat_eq number) others ≡ true → 1 ≤ times number others
times_there number [] there = absurd cc
times_there number (other ∷ others) there = found number other others (nat_eq number other) refl (times_there number others) there

-- the one number of a list
pub the_one : (number : ℕ) (one : Option ℕ) → 1 ≤ times number (option_to_list one) → one ≡ Some number
the_one number None there = absurd (omega (arith, there))
the_one number (Some other) there = elim (eqb_tells number other) [
  | inl (here, same) ↦ ap (λ (n : ℕ). Some n) (sym same)
  | inr (apart, differ) ↦ absurd (let none = hit_apart number other differ in omega (arith, there, none))
]
