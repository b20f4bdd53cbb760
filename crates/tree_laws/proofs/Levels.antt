-- Nodes by their levels: how far a node is below another, in words of children, of ancestors and of descendants.
use Rattle.std.proofs.Common.{◌≡◌, ◌∙◌, ℕ, zero, suc, ◌+◌, ◌-◌, ◌<◌, ◌≤◌, Bool, true, false, List, [], ◌∷◌, length, refl, ap, sym, subst, arith, Option, Some, inl, inr}
use Rattle.std.specs.Prelude.{nat_eq, flat_map, unwrap_or}
use Rattle.std.specs.List.{Contains, list_any}
use Rattle.std.proofs.lemmas.List.Elements.{Contains-append_cases, Contains-append_left, Contains-append_right}
use Rattle.std.proofs.lemmas.Option.{none-some}
use Rattle.basic_laws.proofs.Lists.{any_contained, contained_any, contains_equal, contains_none, contains_only, contains_other}
use Rattle.dom_store.specs.State.{State, greatest_depth}
use Rattle.dom_store.specs.Standing.{ancestors_to, below_levels, children_at, depth_at, parent_at, unless_skipped}
use Rattle.dom_store.proofs.StandLaws.{up_none}
use Rattle.tree_laws.specs.Reached.{IsAtLevel}
use Rattle.tree_laws.specs.Wholeness.{IsWhole, times}
use Rattle.tree_laws.proofs.Parents.{children_have_parents}
use Rattle.tree_laws.proofs.Times.{none_where, times_there}

-- ---- members of a list

pub times_contained : (numbers : List ℕ) (number : ℕ) → Contains numbers number → 1 ≤ times number numbers
times_contained numbers number there = times_there number numbers (any_contained numbers number there)

pub contained_times : (numbers : List ℕ) (number : ℕ) → 1 ≤ times number numbers → Contains numbers number
contained_times numbers number some = by (list_any (nat_eq number) numbers) refl
  where
    by : (b : Bool) → list_any (nat_eq number) numbers ≡ b → Contains numbers number
    by true there = contained_any numbers number there
    by false away = absurd (omega (arith, some, none_where number numbers away))

module _ (f : ℕ → List ℕ) where
  pub contained_flat : (numbers : List ℕ) (among number : ℕ) → Contains numbers among → Contains (f among) number → Contains (flat_map f numbers) number
  contained_flat [] among number there inner = absurd (contains_none among there)
  contained_flat (first ∷ numbers) among number there inner = elim (Contains-append_cases (first ∷ []) numbers among there) [
    | inl here ↦ Contains-append_left (f first) (flat_map f numbers) number (subst (λ (n : ℕ). Contains (f n) number) (sym (contains_only first among here)) inner)
    | inr later ↦ Contains-append_right (f first) (flat_map f numbers) number (contained_flat numbers among number later inner)
  ]

  pub flat_contained : (numbers : List ℕ) (number : ℕ) → Contains (flat_map f numbers) number → (among : ℕ) × Contains numbers among × Contains (f among) number
  flat_contained [] number there = absurd (contains_none number there)
  flat_contained (first ∷ numbers) number there = elim (Contains-append_cases (f first) (flat_map f numbers) number there) [
    | inl here ↦ (first, contains_equal first first numbers refl, here)
    | inr later ↦ let (among, within, inner) = flat_contained numbers number later in (among, contains_other first among numbers within, inner)
  ]

-- ---- how far below another node

-- a node is so many levels below this one
abbrev pub IsBelow : State → (top levels number : ℕ) → Type 0
IsBelow state top zero number = number ≡ top
IsBelow state top (suc levels) number = (parent : ℕ) × IsBelow state top levels parent × Contains (children_at state parent) number

module _ (state : State) where
  -- the way down begins with a child
  pub below_first : (levels top number : ℕ) → IsBelow state top (suc levels) number → (child : ℕ) × Contains (children_at state top) child × IsBelow state child levels number
  below_first zero top number (parent, same, there) = (number, subst (λ (p : ℕ). Contains (children_at state p) number) same there, refl)
  below_first (suc levels) top number (parent, below, there) = let (child, first, rest) = below_first levels top parent below in (child, first, (parent, rest, there))

  pub below_child : (levels top child number : ℕ) → Contains (children_at state top) child → IsBelow state child levels number → IsBelow state top (suc levels) number
  below_child zero top child number there same = (top, refl, subst (λ (n : ℕ). Contains (children_at state top) n) (sym same) there)
  below_child (suc levels) top child number there (parent, below, last) = (parent, below_child levels top child parent there below, last)

  -- a node at a level is as far below `html`
  pub chain_of_level : (level number : ℕ) → IsAtLevel state level number → IsBelow state 0 level number
  chain_of_level zero number at = at
  chain_of_level (suc level) number (parent, at, there) = (parent, chain_of_level level parent at, there)

  plus_zero : (n : ℕ) → n ≡ n + 0
  plus_zero n = omega arith

  plus_one : (n more : ℕ) → suc (n + more) ≡ n + suc more
  plus_one n more = omega arith

  -- a node below one that is at a level
  pub level_below : (level levels top number : ℕ) → IsAtLevel state level top → IsBelow state top levels number → IsAtLevel state (level + levels) number
  level_below level zero top number at same = subst (λ (n : ℕ). IsAtLevel state n number) (plus_zero level) (subst (IsAtLevel state level) (sym same) at)
  level_below level (suc levels) top number at (parent, below, there) = subst (λ (n : ℕ). IsAtLevel state n number) (plus_one level levels) (parent, level_below level levels top parent at below, there)

  -- a node so far below another is one of its descendants on these levels
  pub descendant_of_chain : (levels skipped most top number : ℕ) → skipped ≤ levels → levels < most → IsBelow state top levels number → Contains (below_levels skipped most state top) number
  unfolding below_levels
  descendant_of_chain levels skipped zero top number low high below = absurd (omega (arith, high))
  descendant_of_chain zero zero (suc most) top number low high same =
      Contains-append_left (top ∷ []) (flat_map (below_levels (0 - 1) most state) (children_at state top)) number (contains_equal top number [] same)
  descendant_of_chain zero (suc skipped) (suc most) top number low high same = absurd (omega (arith, low))
  descendant_of_chain (suc levels) skipped (suc most) top number low high below =
      let (child, first, rest) = below_first levels top number below in
      let deeper : Contains (below_levels (skipped - 1) most state child) number = descendant_of_chain levels (skipped - 1) most child number (omega (arith, low)) (omega (arith, high)) rest in
      Contains-append_right (unless_skipped skipped top) (flat_map (below_levels (skipped - 1) most state) (children_at state top)) number
      (contained_flat (below_levels (skipped - 1) most state) (children_at state top) child number first deeper)

  unskipped : (skipped top number : ℕ) → Contains (unless_skipped skipped top) number → (skipped ≡ 0) × (number ≡ top)
  unskipped zero top number there = (refl, sym (contains_only top number there))
  unskipped (suc skipped) top number there = absurd (contains_none number there)

  -- and each of these descendants is so far below it
  pub chain_of_descendant : (most skipped top number : ℕ) → Contains (below_levels skipped most state top) number → (levels : ℕ) × (skipped ≤ levels) × (levels < most) × IsBelow state top levels number
  unfolding below_levels
  chain_of_descendant zero skipped top number there = absurd (contains_none number there)
  chain_of_descendant (suc most) skipped top number there =
      elim (Contains-append_cases (unless_skipped skipped top) (flat_map (below_levels (skipped - 1) most state) (children_at state top)) number there) [
        | inl here ↦ let (none, same) = unskipped skipped top number here in (0, omega (arith, none), omega arith, same)
        | inr later ↦
            let (child, first, deeper) = flat_contained (below_levels (skipped - 1) most state) (children_at state top) number later in
            let (levels, low, high, below) = chain_of_descendant most (skipped - 1) child number deeper in
            (suc levels, omega (arith, low), omega (arith, high), below_child levels top child number first below)
      ]

-- ---- of whole documents

module _ (state : State) (whole : IsWhole state) where
  pub parent_of_child : (parent child : ℕ) → Contains (children_at state parent) child → parent_at state child ≡ Some parent
  parent_of_child parent child there = children_have_parents state whole parent child (any_contained (children_at state parent) child there)

  -- a node has as many ancestors as there are levels above it, and itself
  pub level_ancestors : (level most number : ℕ) → level < most → IsAtLevel state level number → length (ancestors_to most state (Some number)) ≡ level + 1
  unfolding ancestors_to
  level_ancestors level zero number within at = absurd (omega (arith, within))
  level_ancestors zero (suc most) number within at =
      let alone : ancestors_to most state (parent_at state number) ≡ [] = ap (ancestors_to most state) (ap (parent_at state) at ∙ whole.html) ∙ up_none most state in
      ap (λ (others : List ℕ). length (number ∷ others)) alone
  level_ancestors (suc level) (suc most) number within (parent, at, there) =
      let above : ancestors_to most state (parent_at state number) ≡ ancestors_to most state (Some parent) = ap (ancestors_to most state) (parent_of_child parent number there) in
      let count : length (ancestors_to most state (Some parent)) ≡ level + 1 = level_ancestors level most parent (omega (arith, within)) at in
      ap (λ (others : List ℕ). length (number ∷ others)) above ∙ omega (arith, count)

  -- its depth is one more than its level
  pub level_depth : (level number : ℕ) → level < greatest_depth → IsAtLevel state level number → depth_at state number ≡ level + 1
  level_depth level number within at = level_ancestors level greatest_depth number within at

  -- a node that another is below is one of its ancestors
  pub ancestor_of_chain : (levels most top number : ℕ) → levels < most → IsBelow state top levels number → Contains (ancestors_to most state (Some number)) top
  unfolding ancestors_to
  ancestor_of_chain levels zero top number within below = absurd (omega (arith, within))
  ancestor_of_chain zero (suc most) top number within same = contains_equal number top (ancestors_to most state (parent_at state number)) (sym same)
  ancestor_of_chain (suc levels) (suc most) top number within (parent, below, there) =
      let higher : Contains (ancestors_to most state (Some parent)) top = ancestor_of_chain levels most top parent (omega (arith, within)) below in
      contains_other number top (ancestors_to most state (parent_at state number)) (subst (λ (o : Option ℕ). Contains (ancestors_to most state o) top) (sym (parent_of_child parent number there)) higher)

  -- it is at a level as much higher
  pub level_above : (levels level top number : ℕ) → IsAtLevel state level number → IsBelow state top levels number → (above : ℕ) × (level ≡ above + levels) × IsAtLevel state above top
  level_above zero level top number at same = (level, omega arith, subst (IsAtLevel state level) same at)
  level_above (suc levels) zero top number at (parent, below, there) = absurd (none-some parent (sym (ap (parent_at state) at ∙ whole.html) ∙ parent_of_child parent number there))
  level_above (suc levels) (suc level) top number (other, at, among) (parent, below, there) =
      let same : other ≡ parent = ap (λ (o : Option ℕ). unwrap_or o other) (sym (parent_of_child other number among) ∙ parent_of_child parent number there) in
      let (above, sum, its) = level_above levels level top parent (subst (IsAtLevel state level) same at) below in
      (above, omega (arith, sum), its)
