-- Nodes above a node, and the nearest of them that isn't inline.
use Rattle.std.proofs.Common.{◌≡◌, ◌∙◌, ◌⊎◌, ℕ, zero, suc, ◌+◌, ◌<◌, true, List, [], ◌∷◌, refl, ap, sym, subst, arith, Option, Some, None, option_map, inl, inr}
use Rattle.std.specs.Prelude.{flat_map, is_some, map, unwrap_or}
use Rattle.std.specs.List.{Contains}
use Rattle.std.proofs.lemmas.Option.{none-some}
use Rattle.style_types.specs.declared.style.Display.{Display}
use Rattle.style_types.specs.declared.style.Display.TheVariants.{Block, Inline, InlineBlock, FlowRoot, Hidden}
use Rattle.dom_store.specs.State.{Entry, State, greatest_depth}
use Rattle.dom_store.specs.Standing.{ancestors_to, children_at, inclusive_ancestors, lives, parent_at}
use Rattle.dom_store.proofs.StandLaws.{up_none}
use Rattle.tree_laws.specs.Reached.{IsAtLevel, IsReached}
use Rattle.tree_laws.specs.Wholeness.{IsWhole}
use Rattle.tree_laws.proofs.Holding.{child_lives}
use Rattle.tree_laws.proofs.Levels.{IsBelow, level_below, parent_of_child}
use Rattle.box_limits.proofs.Among.{IsIn, found, in_all}
use Rattle.box_limits.proofs.Levels.{one_level}
use Rattle.edit_scope.specs.Scope.{holder_in, unless_inline}

-- ---- lists

pub in_map : (of : ℕ → ℕ) (number : ℕ) (numbers : List ℕ) → IsIn number numbers → IsIn (of number) (map of numbers)
in_map of number [] there = absurd there
in_map of number (other ∷ others) (inl same) = inl (ap of same)
in_map of number (other ∷ others) (inr later) = inr (in_map of number others later)

-- ---- holders

either : (display : Display) (number above : ℕ) → ((display ≡ Inline) × (unless_inline display number above ≡ above)) ⊎ (unless_inline display number above ≡ number)
either Block number above = inr refl
either Inline number above = inl (refl, refl)
either InlineBlock number above = inr refl
either FlowRoot number above = inr refl
either Hidden number above = inr refl

pub not_inline : (display : Display) (number above : ℕ) → (display ≡ Inline → ⊥) → unless_inline display number above ≡ number
not_inline display number above apart = elim (either display number above) [
  | inl (is, climbs) ↦ absurd (apart is)
  | inr stays ↦ stays
]

-- the holder is one of those above, or `html`
pub holder_among : (display : ℕ → Display) (numbers : List ℕ) → IsIn (holder_in display numbers) numbers ⊎ (holder_in display numbers ≡ 0)
unfolding holder_in
holder_among display [] = inr refl
holder_among display (number ∷ above) = elim (either (display number) number (holder_in display above)) [
  | inl (is, climbs) ↦ elim (holder_among display above) [
    | inl there ↦ inl (inr (subst (λ (n : ℕ). IsIn n above) (sym climbs) there))
    | inr none ↦ inr (climbs ∙ none)
  ]
  | inr stays ↦ inl (inl (sym stays))
]

-- displays of others don't count
pub holders_same : (one other : ℕ → Display) (numbers : List ℕ) → ((number : ℕ) → IsIn number numbers → one number ≡ other number) → holder_in one numbers ≡ holder_in other numbers
unfolding holder_in
holders_same one other [] same = refl
holders_same one other (number ∷ above) same =
    ap (λ (d : Display). unless_inline d number (holder_in one above)) (same number (inl refl))
    ∙ ap (unless_inline (other number) number) (holders_same one other above (λ upper there. same upper (inr there)))

module _ (state : State) where
  pub ancestors_are : (most number : ℕ) → ancestors_to (suc most) state (Some number) ≡ number ∷ ancestors_to most state (parent_at state number)
  unfolding ancestors_to
  ancestors_are most number = refl

  more_above : (most number : ℕ) (o : Option ℕ) → IsIn number (ancestors_to most state o) → IsIn number (ancestors_to (suc most) state o)
  unfolding ancestors_to
  more_above zero number o there = absurd there
  more_above (suc most) number None there = absurd there
  more_above (suc most) number (Some other) (inl same) = inl same
  more_above (suc most) number (Some other) (inr later) = inr (more_above most number (parent_at state other) later)

  -- a node above another that isn't inline is the holder of that, or above it
  pub held_at : (display : ℕ → Display) (upper : ℕ) → (display upper ≡ Inline → ⊥) → (most : ℕ) (o : Option ℕ) → IsIn upper (ancestors_to most state o)
      → IsIn upper (ancestors_to most state (Some (holder_in display (ancestors_to most state o))))
  unfolding ancestors_to holder_in
  held_at display upper apart zero o there = absurd there
  held_at display upper apart (suc most) None there = absurd there
  held_at display upper apart (suc most) (Some number) (inl same) =
      let stays = not_inline (display number) number (holder_in display (ancestors_to most state (parent_at state number))) (λ is. apart (sym (ap display same) ∙ is)) in
      subst (λ (n : ℕ). IsIn upper (ancestors_to (suc most) state (Some n))) (sym stays) (inl same)
  held_at display upper apart (suc most) (Some number) (inr later) = elim (either (display number) number (holder_in display (ancestors_to most state (parent_at state number)))) [
    | inl (is, climbs) ↦ subst (λ (n : ℕ). IsIn upper (ancestors_to (suc most) state (Some n))) (sym climbs)
        (more_above most upper (Some (holder_in display (ancestors_to most state (parent_at state number)))) (held_at display upper apart most (parent_at state number) later))
    | inr stays ↦ subst (λ (n : ℕ). IsIn upper (ancestors_to (suc most) state (Some n))) (sym stays) (inr later)
  ]

-- ---- nodes above a node

-- what is in the scope is touched
pub is_reached : (state : State) (numbers : List ℕ) (number : ℕ) → IsIn number numbers → IsIn number (flat_map (inclusive_ancestors state) numbers)
unfolding ancestors_to
is_reached state numbers number there = in_all (inclusive_ancestors state) number number numbers there (inl refl)

lives_with : (o : Option Entry) (child : ℕ) → IsIn child (unwrap_or (option_map (λ entry. entry.children) o) []) → is_some o ≡ true
lives_with None child there = absurd there
lives_with (Some entry) child there = refl

module _ (state : State) (whole : IsWhole state) (reached : IsReached state) where
  -- a node is among the children of its parent, which lives
  pub child_of_parent : (child parent : ℕ) → parent_at state child ≡ Some parent → Contains (children_at state parent) child × (lives state parent ≡ true)
  child_of_parent child parent stands =
      let (level, low, at) = reached.reached child (child_lives (state.node_at child) parent stands) in
      by level at
    where
      by : (level : ℕ) → IsAtLevel state level child → Contains (children_at state parent) child × (lives state parent ≡ true)
      by zero at = absurd (none-some parent (sym (ap (parent_at state) at ∙ whole.html) ∙ stands))
      by (suc level) (upper, at, there) =
          let same : upper ≡ parent = ap (λ (o : Option ℕ). unwrap_or o 0) (sym (parent_of_child state whole upper child there) ∙ stands) in
          let here : Contains (children_at state parent) child = subst (λ (n : ℕ). Contains (children_at state n) child) same there in
          (here, lives_with (state.node_at parent) child (found child (children_at state parent) here))

  chain_by : (most top number : ℕ) → ((upper : ℕ) → IsIn top (ancestors_to most state (Some upper)) → (levels : ℕ) × (levels < most) × IsBelow state top levels upper) → (o : Option ℕ) → parent_at state number ≡ o
      → IsIn top (ancestors_to most state o) → (levels : ℕ) × (levels < suc most) × IsBelow state top levels number
  chain_by most top number inner None is up = absurd (subst (IsIn top) (up_none most state) up)
  chain_by most top number inner (Some parent) is up =
      let (levels, low, below) = inner parent up in
      (suc levels, omega (arith, low), (parent, below, (child_of_parent number parent is).0))

  -- each node above one that lives has it so far below itself
  pub chain_of_ancestor : (most top number : ℕ) → IsIn top (ancestors_to most state (Some number)) → (levels : ℕ) × (levels < most) × IsBelow state top levels number
  unfolding ancestors_to
  chain_of_ancestor zero top number there = absurd there
  chain_of_ancestor (suc most) top number (inl same) = (0, omega arith, same)
  chain_of_ancestor (suc most) top number (inr later) = chain_by most top number (chain_of_ancestor most top) (parent_at state number) refl later

  -- ancestors that are cut where they end anyway
  pub same_ancestors : (level most number : ℕ) → IsAtLevel state level number → level < most → ancestors_to most state (Some number) ≡ ancestors_to (suc most) state (Some number)
  unfolding ancestors_to
  same_ancestors level zero number at within = absurd (omega (arith, within))
  same_ancestors zero (suc most) number at within =
      let top : parent_at state number ≡ None = ap (parent_at state) at ∙ whole.html in
      let none : ancestors_to most state (parent_at state number) ≡ [] = ap (ancestors_to most state) top ∙ up_none most state in
      let none_more : ancestors_to (suc most) state (parent_at state number) ≡ [] = ap (ancestors_to (suc most) state) top ∙ up_none (suc most) state in
      ap (λ (l : List ℕ). number ∷ l) (none ∙ sym none_more)
  same_ancestors (suc level) (suc most) number (parent, above, there) within =
      let stands : parent_at state number ≡ Some parent = parent_of_child state whole parent number there in
      let shorter : ancestors_to most state (parent_at state number) ≡ ancestors_to (suc most) state (parent_at state number) =
      ap (ancestors_to most state) stands ∙ same_ancestors level most parent above (omega (arith, within)) ∙ sym (ap (ancestors_to (suc most) state) stands) in
      ap (λ (l : List ℕ). number ∷ l) shorter

  -- those above a child
  pub ancestors_of_child : (parent child : ℕ) → Contains (children_at state parent) child → inclusive_ancestors state child ≡ child ∷ inclusive_ancestors state parent
  ancestors_of_child parent child there =
      let stands : parent_at state child ≡ Some parent = parent_of_child state whole parent child there in
      let (level, low, at) = reached.reached parent (lives_with (state.node_at parent) child (found child (children_at state parent) there)) in
      let (own, within, its) = reached.reached child (child_lives (state.node_at child) parent stands) in
      let same : suc level ≡ own = one_level state whole (suc level) own child (parent, at, there) its in
      ancestors_are state 63 child
      ∙ ap (λ (l : List ℕ). child ∷ l) (ap (ancestors_to 63 state) stands ∙ same_ancestors level 63 parent at (omega (arith, same, within)))

  -- a node is fewer levels below another than there are
  pub few_levels : (top levels number : ℕ) → lives state top ≡ true → lives state number ≡ true → IsBelow state top levels number → levels < greatest_depth
  few_levels top levels number top_lives alive below =
      let (level, low, at) = reached.reached top top_lives in
      let (own, within, its) = reached.reached number alive in
      let same : level + levels ≡ own = one_level state whole (level + levels) own number (level_below state level levels top number at below) its in
      omega (arith, same, within)
