-- Each node of the tree of a whole document is one that lives, met once.
use Rattle.std.proofs.Common.{◌≡◌, ◌∙◌, ℕ, zero, suc, ◌+◌, ◌<◌, ◌≤◌, List, [], ◌∷◌, refl, ap, sym, subst, arith, Option, Some, None, if◌then◌else◌, inl, inr}
use Rattle.std.specs.Prelude.{nat_eq, ◌≢◌, ⊤, option_to_list}
use Rattle.std.proofs.lemmas.Bool.{cases_lt}
use Rattle.std.proofs.lemmas.Bool.Decides.{eqb_tells}
use Rattle.std.proofs.lemmas.Option.{none-some}
use Rattle.dom_store.specs.State.{What, Entry, State, Tree, none, node, tree_of, tree_to, tree_with}
use Rattle.dom_store.specs.Standing.{children_at, parent_at}
use Rattle.tree_laws.specs.Laws.{TreesWeighNoMore}
use Rattle.tree_laws.specs.Weight.{sum_below, total, weight_in, weight_of}
use Rattle.tree_laws.specs.Wholeness.{IsWhole, times}
use Rattle.tree_laws.proofs.Times.{hit, hit_apart, hit_same, hit_turned}
use Rattle.tree_laws.proofs.Sums.{only, sum_both, sum_least, sum_none, sum_one}
use Rattle.tree_laws.proofs.Keeping.{children_of}

-- ---- how often a node is met in a tree

abbrev pub met : (number : ℕ) → Tree → ℕ
met number none = 0
met number (node other what inner next) = hit number other + (met number inner + met number next)

abbrev met_above : (parent : Option ℕ) → Tree → ℕ
met_above None tree = 0
met_above (Some parent) tree = met parent tree

above_node : (parent : Option ℕ) (number : ℕ) (what : What) (inner next : Tree)
    → times number (option_to_list parent) + (met_above parent inner + met_above parent next) ≤ met_above parent (node number what inner next)
above_node None number what inner next = omega arith
above_node (Some parent) number what inner next = omega (arith, hit_turned number parent)

above_none : (parent : Option ℕ) → met_above parent none ≡ 0
above_none None = refl
above_none (Some parent) = refl

module _ (state : State) (child : ℕ) (parent : Option ℕ) (inside : (number : ℕ) → times child (children_at state number) ≤ times number (option_to_list parent)) where
  -- a node that is met is one of the first, or its parent is met one level higher
  abbrev Met : (levels : ℕ) → List ℕ → Type 0
  Met levels numbers = met child (tree_to (suc levels) state numbers) ≤ times child numbers + met_above parent (tree_to levels state numbers)

  top_entry : (o : Option Entry) (number : ℕ) (numbers : List ℕ) → Met 0 numbers
      → met child (tree_with o number (tree_to 0 state) (tree_to 1 state numbers)) ≤ (hit child number + times child numbers) + met_above parent none
  unfolding tree_to
  top_entry None number numbers others = omega (arith, others)
  top_entry (Some entry) number numbers others = omega (arith, others)

  entry_met : (levels : ℕ) (o : Option Entry) (number : ℕ) (numbers : List ℕ) → state.node_at number ≡ o → ((below : List ℕ) → Met levels below) → Met (suc levels) numbers
      → met child (tree_with o number (tree_to (suc levels) state) (tree_to (suc (suc levels)) state numbers))
      ≤ (hit child number + times child numbers) + met_above parent (tree_with o number (tree_to levels state) (tree_to (suc levels) state numbers))
  entry_met levels None number numbers is below others = omega (arith, others)
  entry_met levels (Some entry) number numbers is below others =
      let own : times child (children_at state number) ≡ times child entry.children = ap (λ (o : Option Entry). times child (children_of o)) is in
      omega (
        arith,
        own,
        inside number,
        below entry.children,
        others,
        above_node parent number entry.what (tree_to levels state entry.children) (tree_to (suc levels) state numbers),
      )

  all_met : (levels : ℕ) → ((below : List ℕ) → Met levels below) → (numbers : List ℕ) → Met (suc levels) numbers
  unfolding tree_to
  all_met levels below [] = omega arith
  all_met levels below (number ∷ numbers) = entry_met levels (state.node_at number) number numbers refl below (all_met levels below numbers)

  top_met : (numbers : List ℕ) → Met 0 numbers
  unfolding tree_to
  top_met [] = omega arith
  top_met (number ∷ numbers) = top_entry (state.node_at number) number numbers (top_met numbers)

  are_met : (levels : ℕ) (numbers : List ℕ) → Met levels numbers
  are_met zero numbers = top_met numbers
  are_met (suc levels) numbers = all_met levels (are_met levels) numbers

-- ---- each once

no_levels : (state : State) (number : ℕ) → met number (tree_to 0 state (0 ∷ [])) ≡ 0
unfolding tree_to
no_levels state number = refl

module _ (state : State) (whole : IsWhole state) where
  inside_of : (child : ℕ) (parent : Option ℕ) → parent_at state child ≡ parent → (number : ℕ) → times child (children_at state number) ≤ times number (option_to_list parent)
  inside_of child parent is number = subst (λ (p : Option ℕ). times child (children_at state number) ≤ times number (option_to_list p)) is (whole.inside number child)

  -- `html` is met first alone
  html_once : (levels : ℕ) → met 0 (tree_to (suc levels) state (0 ∷ [])) ≤ 1
  html_once levels = omega (arith, are_met state 0 None (inside_of 0 None whole.html) levels (0 ∷ []), hit_same 0)

  by_parent : (levels child : ℕ) (parent : Option ℕ) → parent_at state child ≡ parent → child ≢ 0 → ((number : ℕ) → met number (tree_to levels state (0 ∷ [])) ≤ 1) → met child (tree_to (suc levels) state (0 ∷ [])) ≤ 1
  by_parent levels child None is apart higher = omega (arith, are_met state child None (inside_of child None is) levels (0 ∷ []), hit_apart child 0 apart)
  by_parent levels child (Some parent) is apart higher =
      omega (arith, are_met state child (Some parent) (inside_of child (Some parent) is) levels (0 ∷ []), hit_apart child 0 apart, higher parent)

  pub once : (levels number : ℕ) → met number (tree_to levels state (0 ∷ [])) ≤ 1
  once zero number = omega (arith, no_levels state number)
  once (suc levels) number = elim (eqb_tells number 0) [
    | inl (here, same) ↦ subst (λ (n : ℕ). met n (tree_to (suc levels) state (0 ∷ [])) ≤ 1) (sym same) (html_once levels)
    | inr (there, apart) ↦ by_parent levels number (parent_at state number) refl apart (once levels)
  ]

-- ---- its weight

module _ (weight : What → ℕ) (state : State) where
  -- each node of the tree is one of the state
  abbrev AreOf : Tree → Type 0
  AreOf none = ⊤
  AreOf (node number what inner next) = (number < state.next) × (weight what ≡ weight_of weight (state.node_at number)) × AreOf inner × AreOf next

  -- the weight of the nodes with a number
  abbrev weighed : (number : ℕ) → Tree → ℕ
  weighed number none = 0
  weighed number (node other what inner next) = (if nat_eq number other then weight what else 0) + (weighed number inner + weighed number next)

  summed : (tree : Tree) → AreOf tree → weight_in weight tree ≡ sum_below (λ number. weighed number tree) state.next
  unfolding weight_in
  summed none are = sym (sum_none state.next)
  summed (node number what inner next) are =
      omega (
        arith,
        sum_both (only number (weight what)) (λ k. weighed k inner + weighed k next) state.next,
        sum_both (λ k. weighed k inner) (λ k. weighed k next) state.next,
        sum_one number (weight what) state.next are.0,
        summed inner are.2,
        summed next are.3,
      )

  unmet : (number : ℕ) (tree : Tree) → met number tree ≡ 0 → weighed number tree ≡ 0
  unmet number none none_met = refl
  unmet number (node other what inner next) none_met = elim (eqb_tells number other) [
    | inl (here, same) ↦ absurd (omega (arith, none_met, subst (λ (n : ℕ). hit number n ≡ 1) same (hit_same number)))
    | inr (there, apart) ↦ rw there (omega (arith, unmet number inner (omega (arith, none_met)), unmet number next (omega (arith, none_met))))
  ]

  met_once : (number : ℕ) (tree : Tree) → AreOf tree → met number tree ≤ 1 → weighed number tree ≤ weight_of weight (state.node_at number)
  met_once number none are few = omega arith
  met_once number (node other what inner next) are few = elim (eqb_tells number other) [
    | inl (here, same) ↦
        let one : hit number other ≡ 1 = subst (λ (n : ℕ). hit number n ≡ 1) same (hit_same number) in
        let as_here : weight_of weight (state.node_at number) ≡ weight_of weight (state.node_at other) = ap (λ (n : ℕ). weight_of weight (state.node_at n)) same in
        rw here (omega (arith, are.1, as_here, unmet number inner (omega (arith, one, few)), unmet number next (omega (arith, one, few))))
    | inr (there, apart) ↦ rw there (elim (cases_lt 0 (met number inner)) [
      | inl within ↦ omega (arith, met_once number inner are.2 (omega (arith, few)), unmet number next (omega (arith, within, few)))
      | inr without ↦ omega (arith, unmet number inner (omega (arith, without)), met_once number next are.3 (omega (arith, few)))
    ])
  ]

  module _ (below : (number : ℕ) → state.next ≤ number → state.node_at number ≡ None) where
    entry_of : (levels : ℕ) (o : Option Entry) (number : ℕ) (numbers : List ℕ) → state.node_at number ≡ o → ((numbers : List ℕ) → AreOf (tree_to levels state numbers)) → AreOf (tree_to (suc levels) state numbers)
        → AreOf (tree_with o number (tree_to levels state) (tree_to (suc levels) state numbers))
    entry_of levels None number numbers is inner others = others
    entry_of levels (Some entry) number numbers is inner others = (
      elim (cases_lt number state.next) [
        | inl within ↦ within
        | inr past ↦ absurd (none-some entry (sym (below number past) ∙ is))
      ],
      sym (ap (weight_of weight) is),
      inner entry.children,
      others,
    )

    all_of : (levels : ℕ) → ((numbers : List ℕ) → AreOf (tree_to levels state numbers)) → (numbers : List ℕ) → AreOf (tree_to (suc levels) state numbers)
    unfolding tree_to
    all_of levels inner [] = tt
    all_of levels inner (number ∷ numbers) = entry_of levels (state.node_at number) number numbers refl inner (all_of levels inner numbers)

    are_of : (levels : ℕ) (numbers : List ℕ) → AreOf (tree_to levels state numbers)
    unfolding tree_to
    are_of zero numbers = tt
    are_of (suc levels) numbers = all_of levels (are_of levels) numbers

pub trees_weigh_no_more : TreesWeighNoMore
trees_weigh_no_more weight state whole =
    let are = are_of weight state whole.below 64 (0 ∷ []) in
    let each : sum_below (λ number. weighed weight state number (tree_of state)) state.next ≤ total weight state = sum_least _ _ state.next (λ number within. met_once weight state number (tree_of state) are (once state whole 64 number)) in
    omega (arith, summed weight state (tree_of state) are, each)
