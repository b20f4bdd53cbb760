-- What a selector is made of, counted compound by compound.
use Rattle.std.proofs.Common.{◌≡◌, ℕ, ◌<◌, ◌≤◌, ◌+◌, List, [], ◌∷◌, length, drop, get_or, map, refl, sym, ap, ◌∙◌, arith}
use Rattle.std.proofs.lemmas.List.{drop_all, length-map, drop_more}
use Rattle.css_types.specs.declared.rule.Part.{Part}
use Rattle.css_types.specs.Rule.{Compound, compound_of, compounds_of}
use Rattle.css_sheet.specs.Specificity.{count_of, held, sum, ids_in, classes_in, types_in}

held_step : (a b c : ℕ) → held (held (a + b) + c) ≡ held (a + (b + c))
held_step a b c = omega arith

-- the count with those that are left is that of all
abbrev pub IsCounting : (of : Compound → ℕ) → (parts : List Part) → (i count : ℕ) → Type 0
IsCounting of parts i count = (count ≤ 4294967295) × (held (count + sum of (compounds_of (drop i parts))) ≡ held (sum of (compounds_of parts)))

one_more : (of : Compound → ℕ) (c : Compound) (others : List Compound) → sum of (c ∷ others) ≡ of c + sum of others
unfolding sum
one_more of c others = refl

none_more : (of : Compound → ℕ) → sum of [] ≡ 0
unfolding sum
none_more of = refl

goes_on : (of : Compound → ℕ) (parts : List Part) (i : ℕ) (d : Part) (count more : ℕ) → i < length parts → more ≡ held (count + of (compound_of (get_or parts i d))) → IsCounting of parts i count → IsCounting of parts (i + 1) more
goes_on of parts i d count more lt e now =
    let here : sum of (compounds_of (drop i parts)) ≡ of (compound_of (get_or parts i d)) + sum of (compounds_of (drop (i + 1) parts)) =
    rw (drop_more parts i d lt) (one_more of (compound_of (get_or parts i d)) (compounds_of (drop (i + 1) parts))) in (
      omega (arith, e),
      ap (λ (n : ℕ). held (n + sum of (compounds_of (drop (i + 1) parts)))) e
          ∙ held_step count (of (compound_of (get_or parts i d))) (sum of (compounds_of (drop (i + 1) parts)))
          ∙ ap (λ (n : ℕ). held (count + n)) (sym here) ∙ now.1,
    )

ends : (of : Compound → ℕ) (parts : List Part) (i count : ℕ) → length parts ≤ i → IsCounting of parts i count → count ≡ held (sum of (compounds_of parts))
ends of parts i count le now =
    let none : drop i parts ≡ [] = drop_all i parts le in
    let zero_ : sum of (compounds_of (drop i parts)) ≡ 0 = rw none (none_more of) in
    let is : count ≡ held (count + 0) = omega (arith, now.0) in
    is ∙ ap (λ (n : ℕ). held (count + n)) (sym zero_) ∙ now.1

-- ---- ids

abbrev pub Counts_ids : (parts : List Part) → (i count : ℕ) → Type 0
Counts_ids parts i count = IsCounting (λ c. length c.ids) parts i count

pub ids_go_on : (parts : List Part) (i : ℕ) (d : Part) (count more : ℕ) → i < length parts → more ≡ held (count + length (compound_of (get_or parts i d)).ids) → Counts_ids parts i count → Counts_ids parts (i + 1) more
ids_go_on parts i d count more = goes_on (λ c. length c.ids) parts i d count more

pub ids_end : (parts : List Part) (i count : ℕ) → length parts ≤ i → Counts_ids parts i count → count ≡ ids_in (compounds_of parts)
ids_end parts i count = ends (λ c. length c.ids) parts i count

-- ---- classes

abbrev pub Counts_classes : (parts : List Part) → (i count : ℕ) → Type 0
Counts_classes parts i count = IsCounting (λ c. length c.classes) parts i count

pub classes_go_on : (parts : List Part) (i : ℕ) (d : Part) (count more : ℕ) → i < length parts → more ≡ held (count + length (compound_of (get_or parts i d)).classes) → Counts_classes parts i count → Counts_classes parts (i + 1) more
classes_go_on parts i d count more = goes_on (λ c. length c.classes) parts i d count more

pub classes_end : (parts : List Part) (i count : ℕ) → length parts ≤ i → Counts_classes parts i count → count ≡ classes_in (compounds_of parts)
classes_end parts i count = ends (λ c. length c.classes) parts i count

-- ---- types

abbrev pub Counts_types : (parts : List Part) → (i count : ℕ) → Type 0
Counts_types parts i count = IsCounting (λ c. count_of c.tag) parts i count

pub types_go_on : (parts : List Part) (i : ℕ) (d : Part) (count more : ℕ) → i < length parts → more ≡ held (count + count_of (compound_of (get_or parts i d)).tag) → Counts_types parts i count → Counts_types parts (i + 1) more
types_go_on parts i d count more = goes_on (λ c. count_of c.tag) parts i d count more

pub types_end : (parts : List Part) (i count : ℕ) → length parts ≤ i → Counts_types parts i count → count ≡ types_in (compounds_of parts)
types_end parts i count = ends (λ c. count_of c.tag) parts i count

-- ---- lengths

pub texts_length : {A : Type 0} {B : Type 0} (view : A → B) (items : List A) → length items ≡ length (map view items)
texts_length view items = sym (length-map items view)
