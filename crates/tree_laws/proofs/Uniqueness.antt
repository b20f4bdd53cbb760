-- In a whole document a node has one level, and one way down from each node above it.
use Rattle.std.proofs.Common.{◌≡◌, ◌≢◌, ◌∙◌, ℕ, zero, suc, ◌<◌, refl, ap, sym, subst, arith, Option}
use Rattle.std.specs.Prelude.{unwrap_or}
use Rattle.std.specs.List.{Contains}
use Rattle.std.proofs.lemmas.Option.{none-some}
use Rattle.dom_store.specs.State.{State}
use Rattle.dom_store.specs.Standing.{below_levels, children_at, parent_at}
use Rattle.tree_laws.specs.Reached.{IsAtLevel}
use Rattle.tree_laws.specs.Wholeness.{IsWhole}
use Rattle.tree_laws.proofs.Levels.{IsBelow, chain_of_descendant, parent_of_child}

module _ (state : State) (whole : IsWhole state) where
  one_parent : (one other child : ℕ) → Contains (children_at state one) child → Contains (children_at state other) child → one ≡ other
  one_parent one other child here there = ap (λ (o : Option ℕ). unwrap_or o one) (sym (parent_of_child state whole one child here) ∙ parent_of_child state whole other child there)

  -- a node has one level
  pub one_level : (one other number : ℕ) → IsAtLevel state one number → IsAtLevel state other number → one ≡ other
  one_level zero zero number here there = refl
  one_level zero (suc other) number here (parent, there, among) = absurd (none-some parent (sym (ap (parent_at state) here ∙ whole.html) ∙ parent_of_child state whole parent number among))
  one_level (suc one) zero number (parent, here, among) there = absurd (none-some parent (sym (ap (parent_at state) there ∙ whole.html) ∙ parent_of_child state whole parent number among))
  one_level (suc one) (suc other) number (parent, here, among) (second, there, also) =
      ap suc (one_level one other parent here (subst (IsAtLevel state other) (one_parent second parent number also among) there))

  -- and one node so far above it
  pub one_above : (levels one other number : ℕ) → IsBelow state one levels number → IsBelow state other levels number → one ≡ other
  one_above zero one other number here there = sym here ∙ there
  one_above (suc levels) one other number (parent, here, among) (second, there, also) =
      one_above levels one other parent here (subst (λ (p : ℕ). IsBelow state other levels p) (one_parent second parent number also among) there)

  -- a node that stands lower isn't this one
  pub lower_apart : (level lower one other : ℕ) → IsAtLevel state level one → IsAtLevel state lower other → level < lower → one ≢ other
  lower_apart level lower one other here there less same =
      let equal = one_level level lower one here (subst (IsAtLevel state lower) (sym same) there) in
      omega (arith, equal, less)

  -- the parent of a node below another is that one, or below it
  pub parent_below : (most top child number : ℕ) → Contains (children_at state top) child → Contains (below_levels 0 most state child) number
      → (levels : ℕ) × (levels < most) × ((parent : ℕ) × IsBelow state top levels parent × Contains (children_at state parent) number)
  parent_below most top child number among there =
      let (levels, none, few, below) = chain_of_descendant state most 0 child number there in
      (levels, few, first levels number below)
    where
      first : (levels number : ℕ) → IsBelow state child levels number → (parent : ℕ) × IsBelow state top levels parent × Contains (children_at state parent) number
      first zero number same = (top, refl, subst (Contains (children_at state top)) (sym same) among)
      first (suc levels) number (parent, below, last) =
          let (upper, its, inner) = first levels parent below in
          (parent, (upper, its, inner), last)
