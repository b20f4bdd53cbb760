-- Nodes level by level, and their lines.
use Rattle.std.proofs.Common.{◌≡◌, ◌∙◌, ℕ, zero, suc, ◌<◌, ◌≤◌, List, [], ◌∷◌, refl, ap, sym, subst, arith, Option, Some, None, inl, inr}
use Rattle.std.specs.Prelude.{flat_map, option_and_then, is_some, unwrap_or}
use Rattle.std.proofs.lemmas.Bool.{cases_lt}
use Rattle.std.proofs.lemmas.Option.{none-some}
use Rattle.dom_store.specs.State.{Entry, State, What, line, line_to, line_with}
use Rattle.dom_store.specs.Standing.{below_levels, children_at, parent_at}
use Rattle.tree_laws.specs.Reached.{IsAtLevel, IsReached}
use Rattle.tree_laws.specs.Wholeness.{IsWhole}
use Rattle.tree_laws.proofs.Times.{the_one}
use Rattle.box_limits.proofs.Among.{IsIn, contained, found, in_all, of_one, times_in}

-- a node that has a parent lives
entry_with : (state : State) (number parent : ℕ) (o : Option Entry) → option_and_then (λ entry. entry.parent) o ≡ Some parent → (entry : Entry) × (o ≡ Some entry) × (entry.parent ≡ Some parent)
entry_with state number parent None is = absurd (none-some parent is)
entry_with state number parent (Some entry) is = (entry, refl, is)

some_parent : (one other : ℕ) → Some one ≡ Some other → one ≡ other
some_parent one other is = ap (λ (o : Option ℕ). unwrap_or o one) is

module _ (state : State) (whole : IsWhole state) where
  pub parent_is : (parent child : ℕ) → IsIn child (children_at state parent) → parent_at state child ≡ Some parent
  parent_is parent child there = the_one parent (parent_at state child) (omega (arith, whole.inside parent child, times_in child (children_at state parent) there))

  pub child_lives : (parent child : ℕ) → IsIn child (children_at state parent) → (entry : Entry) × (state.node_at child ≡ Some entry) × (entry.parent ≡ Some parent)
  child_lives parent child there = entry_with state child parent (state.node_at child) (parent_is parent child there)

  -- a node is at one level
  pub one_level : (level other number : ℕ) → IsAtLevel state level number → IsAtLevel state other number → level ≡ other
  one_level zero zero number one two = refl
  one_level zero (suc other) number one (parent, above, there) =
      absurd (none-some parent (sym (ap (parent_at state) one ∙ whole.html) ∙ parent_is parent number (found number (children_at state parent) there)))
  one_level (suc level) zero number (parent, above, there) two =
      absurd (none-some parent (sym (ap (parent_at state) two ∙ whole.html) ∙ parent_is parent number (found number (children_at state parent) there)))
  one_level (suc level) (suc other) number (parent, above, there) (second, over, here) =
      let same : parent ≡ second = some_parent parent second (sym (parent_is parent number (found number (children_at state parent) there)) ∙ parent_is second number (found number (children_at state second) here)) in
      ap (λ (n : ℕ). suc n) (one_level level other parent above (subst (IsAtLevel state other) (sym same) over))

  -- ---- lines

  pub no_line : (most : ℕ) → line_to most state None ≡ []
  unfolding line_to
  no_line zero = refl
  no_line (suc most) = refl

  pub line_is : (most number : ℕ) (entry : Entry) → state.node_at number ≡ Some entry → line_to (suc most) state (Some number) ≡ entry.what ∷ line_to most state entry.parent
  unfolding line_to
  line_is most number entry is = ap (line_with (line_to most state)) is

  html_lines : (most : ℕ) (o : Option Entry) → option_and_then (λ entry. entry.parent) o ≡ None → line_with (line_to most state) o ≡ line_with (line_to (suc most) state) o
  html_lines most None is = refl
  html_lines most (Some entry) is =
      let one : line_to most state entry.parent ≡ [] = ap (line_to most state) is ∙ no_line most in
      let two : line_to (suc most) state entry.parent ≡ [] = ap (line_to (suc most) state) is ∙ no_line (suc most) in
      ap (λ (l : List What). entry.what ∷ l) (one ∙ sym two)

  -- a line that is cut where it ends anyway
  same_line : (level most number : ℕ) → IsAtLevel state level number → level < most → line_to most state (Some number) ≡ line_to (suc most) state (Some number)
  unfolding line_to
  same_line level zero number at within = absurd (omega (arith, within))
  same_line zero (suc most) number at within = html_lines most (state.node_at number) (ap (parent_at state) at ∙ whole.html)
  same_line (suc level) (suc most) number (parent, above, there) within =
      let (entry, lives_, stands) = child_lives parent number (found number (children_at state parent) there) in
      let shorter : line_to most state entry.parent ≡ line_to (suc most) state entry.parent =
      ap (line_to most state) stands ∙ same_line level most parent above (omega (arith, within)) ∙ sym (ap (line_to (suc most) state) stands) in
      line_is most number entry lives_ ∙ ap (λ (l : List What). entry.what ∷ l) shorter ∙ sym (line_is (suc most) number entry lives_)

  -- the line of a child is that of its parent with the child before it
  pub child_line : (reached : IsReached state) (level parent child : ℕ) → IsAtLevel state level parent → IsIn child (children_at state parent)
      → (entry : Entry) × (state.node_at child ≡ Some entry) × (entry.parent ≡ Some parent) × (line state child ≡ entry.what ∷ line state parent)
  child_line reached level parent child above there =
      let (entry, here, stands) = child_lives parent child there in
      let (own, within, at) = reached.reached child (ap (λ (o : Option Entry). is_some o) here) in
      let same : suc level ≡ own = one_level (suc level) own child (parent, above, contained child (children_at state parent) there) at in
      let cut : line_to 63 state entry.parent ≡ line state parent = ap (line_to 63 state) stands ∙ same_line level 63 parent above (omega (arith, same, within)) in
      (entry, here, stands, line_is 63 child entry here ∙ ap (λ (l : List What). entry.what ∷ l) cut)

-- ---- the nodes below a node

module _ (state : State) where
  pub below_is : (levels number : ℕ) → below_levels 0 (suc levels) state number ≡ number ∷ flat_map (below_levels 0 levels state) (children_at state number)
  unfolding below_levels
  below_is levels number = refl

  pub first_below : (levels number : ℕ) → IsIn number (below_levels 0 (suc levels) state number)
  unfolding below_levels
  first_below levels number = inl refl

  more_all : (less more : ℕ → List ℕ) → ((first number : ℕ) → IsIn number (less first) → IsIn number (more first)) → (number : ℕ) (numbers : List ℕ) → IsIn number (flat_map less numbers) → IsIn number (flat_map more numbers)
  more_all less more each number numbers there = let (first, among, at) = of_one less number numbers there in in_all more number first numbers among (each first number at)

  pub one_more : (levels first number : ℕ) → IsIn number (below_levels 0 levels state first) → IsIn number (below_levels 0 (suc levels) state first)
  unfolding below_levels
  one_more zero first number there = absurd there
  one_more (suc levels) first number (inl same) = inl same
  one_more (suc levels) first number (inr later) = inr (more_all (below_levels 0 levels state) (below_levels 0 (suc levels) state) (one_more levels) number (children_at state first) later)

  pub up_to : (most levels first number : ℕ) → levels ≤ most → IsIn number (below_levels 0 levels state first) → IsIn number (below_levels 0 most state first)
  up_to zero levels first number within there = subst (λ (n : ℕ). IsIn number (below_levels 0 n state first)) (omega (arith, within)) there
  up_to (suc most) levels first number within there = elim (cases_lt most levels) [
    | inl over ↦ subst (λ (n : ℕ). IsIn number (below_levels 0 n state first)) (omega (arith, within, over)) there
    | inr under ↦ one_more most first number (up_to most levels first number under there)
  ]

  -- a child of a node below another stands one level lower
  pub child_below : (levels first number child : ℕ) → IsIn number (below_levels 0 levels state first) → IsIn child (children_at state number) → IsIn child (below_levels 0 (suc levels) state first)
  unfolding below_levels
  child_below zero first number child there under = absurd there
  child_below (suc levels) first number child (inl same) under =
      inr (in_all (below_levels 0 (suc levels) state) child child (children_at state first) (subst (λ (n : ℕ). IsIn child (children_at state n)) (sym same) under) (inl refl))
  child_below (suc levels) first number child (inr later) under =
      let (second, among, at) = of_one (below_levels 0 levels state) number (children_at state first) later in
      inr (in_all (below_levels 0 (suc levels) state) child second (children_at state first) among (child_below levels second number child at under))

  -- a node at a level is so far below `html`
  pub level_below : (level number : ℕ) → IsAtLevel state level number → IsIn number (below_levels 0 (suc level) state 0)
  unfolding below_levels
  level_below zero number at = inl (sym at)
  level_below (suc level) number (parent, above, there) = child_below (suc level) 0 parent number (level_below level parent above) (found number (children_at state parent) there)
