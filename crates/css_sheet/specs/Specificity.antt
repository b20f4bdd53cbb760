-- How specific a selector is. Selectors 3, 9.
use Rattle.std.specs.Prelude.{◌≡◌, ◌⊎◌, ℕ, ◌<◌, ◌+◌, ◌-◌, ◌^◌, min, List, [], ◌∷◌, length, Option, Some, None}
use Rattle.css_sheet.specs.declared.counts.Specificity as code
use Rattle.css_types.specs.Rule.{Compound}

-- a type counts once
abbrev pub count_of : Option (List ℕ) → ℕ
count_of (Some tag) = 1
count_of None = 0

-- the sum over all compounds
unfoldable pub sum : (Compound → ℕ) → List Compound → ℕ
sum count [] = 0
sum count (c ∷ others) = count c + sum count others

-- a count past the last number of u32 counts as that number
abbrev pub held : ℕ → ℕ
held n = min n (2 ^ 32 - 1)

abbrev pub ids_in : List Compound → ℕ
ids_in compounds = held (sum (λ c. length c.ids) compounds)

abbrev pub classes_in : List Compound → ℕ
classes_in compounds = held (sum (λ c. length c.classes) compounds)

abbrev pub types_in : List Compound → ℕ
types_in compounds = held (sum (λ c. count_of c.tag) compounds)

abbrev pub specificity_of : List Compound → code.Specificity
specificity_of selector = record { ids = ids_in selector; classes = classes_in selector; types = types_in selector }

-- ids outweigh classes, and classes outweigh types
abbrev pub IsLessSpecific : (one other : code.Specificity) → Type 0
IsLessSpecific one other = (one.ids < other.ids)
    ⊎ ((one.ids ≡ other.ids) × ((one.classes < other.classes) ⊎ ((one.classes ≡ other.classes) × (one.types < other.types))))
