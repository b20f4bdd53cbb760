-- What is kept for a constraint.
use Rattle.std.specs.Prelude.{ℤ, Bool, true, List, ◌∷◌, Option, Some, None}
use Rattle.std.specs.Option.{option_cmp}
use Rattle.std.specs.declared.cmp.Ordering.{Ordering}
use Rattle.std.specs.Ordering.{int_cmp, ordering_then, is_eq}
use Rattle.std.specs.Map.{lookup}
use Rattle.fragment_types.specs.declared.constraint.Constraint.{Constraint}
use Rattle.fragment_types.specs.declared.fragment.Fragment.{Fragment}

-- results with the sizes that each was laid out for, inline and block
abbrev pub Results : Type 0
Results = List ((Option ℤ × Option ℤ) × Fragment)

-- the order of two pairs of sizes
abbrev pub sizes_cmp : Option ℤ × Option ℤ → Option ℤ × Option ℤ → Ordering
sizes_cmp one other = ordering_then (option_cmp int_cmp one.0 other.0) (option_cmp int_cmp one.1 other.1)

-- the result for a constraint
abbrev pub result_for : Results → (c : Constraint) → Option Fragment
result_for results c = lookup (λ sizes. is_eq (sizes_cmp (c.inline, c.block) sizes)) results

-- the code's results: one that stands first, and the others
abbrev pub with_first : Option ((Option ℤ × Option ℤ) × Fragment) → Results → Results
with_first None others = others
with_first (Some first) others = first ∷ others

abbrev pub stands_first : Option ((Option ℤ × Option ℤ) × Fragment) → (sizes : Option ℤ × Option ℤ) → Bool
stands_first None sizes = true
stands_first (Some first) sizes = is_eq (sizes_cmp sizes first.0)
