use Rattle.std.proofs.Common.{◌≡◌, ℕ, take}
use Rattle.std.specs.BTreeSet.{contains}
use Rattle.std.specs.List.{list_any}
use Rattle.std.specs.Ordering.{nat_cmp}
use Rattle.std.specs.Prelude.{nat_eq}
use Rattle.dom_store.specs.Exact.{without_each}
use Rattle.dom_store.proofs.siblings.without_each.Given as goal

-- the set has those that were looked at
abbrev pub invariant-loop-number : goal.invariant-loop-number
invariant-loop-number l = (number : ℕ) → contains nat_cmp l.gone number ≡ list_any (nat_eq number) (take l.number-index l.numbers)

abbrev pub invariant-loop-child : goal.invariant-loop-child
invariant-loop-child l = l.rest.items ≡ without_each l.numbers (take l.child-index l.children)
