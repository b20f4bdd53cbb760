-- Of which nodes of a list a node is the parent.
use Rattle.std.proofs.Common.{◌≡◌, ◌∙◌, ℕ, zero, suc, ◌+◌, ◌<◌, ◌≤◌, Bool, true, false, List, [], ◌∷◌, refl, arith, Option, Some, None, if◌then◌else◌}
use Rattle.std.specs.Prelude.{nat_eq, ◌≢◌, option_and_then, option_to_list}
use Rattle.std.specs.List.{slice_get}
use Rattle.html_read.specs.Values.{Node}
use Rattle.dom_store.specs.Opening.{children_from, put_if, stands_in}
use Rattle.tree_laws.specs.Wholeness.{times}
use Rattle.tree_laws.proofs.Times.{hit_apart, hit_same}

abbrev pub parent_in : Option Node → Option ℕ
parent_in o = option_and_then (λ node. node.parent) o

put_apart : (number at : ℕ) (put : Bool) (others : List ℕ) → number ≢ at → times number (put_if put at others) ≡ times number others
put_apart number at true others apart = omega (arith, hit_apart number at apart)
put_apart number at false others apart = refl

-- the places are counted upwards
pub none_before : (nodes : List Node) (at place number : ℕ) → number < at → times number (children_from at place nodes) ≡ 0
unfolding children_from
none_before [] at place number before = refl
none_before (node ∷ nodes) at place number before =
    put_apart number at (stands_in place node.parent) (children_from (at + 1) place nodes) (λ same. omega (arith, before, same)) ∙ none_before nodes (at + 1) place number (omega (arith, before))

first_once : (at : ℕ) (put : Bool) (others : List ℕ) → times at others ≡ 0 → times at (put_if put at others) ≤ (if put then 1 else 0)
first_once at true others none = omega (arith, hit_same at, none)
first_once at false others none = omega (arith, none)

first_in : (at place : ℕ) (of : Option ℕ) (others : List ℕ) → times at others ≡ 0 → times at (put_if (stands_in place of) at others) ≤ times place (option_to_list of)
first_in at place None others none = omega (arith, none)
first_in at place (Some parent) others none = omega (arith, first_once at (nat_eq place parent) others none)

-- a node is a child of its parent alone, and once
pub in_parent : (nodes : List Node) (at place number index : ℕ) → number ≡ at + index → times number (children_from at place nodes) ≤ times place (option_to_list (parent_in (slice_get nodes index)))
unfolding children_from
in_parent [] at place number index is = omega arith
in_parent (node ∷ nodes) at place number zero is =
    let here : number ≡ at = omega (arith, is) in
    rw here (first_in at place node.parent (children_from (at + 1) place nodes) (none_before nodes (at + 1) place at (omega arith)))
in_parent (node ∷ nodes) at place number (suc index) is =
    omega (
      arith,
      put_apart number at (stands_in place node.parent) (children_from (at + 1) place nodes) (λ same. omega (arith, is, same)),
      in_parent nodes (at + 1) place number index (omega (arith, is)),
    )
