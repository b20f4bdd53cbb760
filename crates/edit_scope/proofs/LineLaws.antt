-- Which elements stand where they stood after an edit, below the same nodes.
use Rattle.std.proofs.Common.{◌≡◌, ◌∙◌, ◌⊎◌, ℕ, zero, suc, true, false, List, ◌∷◌, refl, ap, sym, subst, arith, Option, Some, None, option_map, inl, inr}
use Rattle.std.specs.Prelude.{is_some, option_and_then, unwrap_or}
use Rattle.std.proofs.lemmas.Bool.{false≢true}
use Rattle.std.proofs.lemmas.Option.{none-some, same_Some}
use Rattle.css_types.specs.Rule.{Ruling}
use Rattle.dom_store.specs.State.{What, Entry, State, IsElement, greatest_depth, line_to, line_with}
use Rattle.dom_store.specs.Standing.{ancestors_to, below_levels, children_at, inclusive_descendants, lives, parent_at}
use Rattle.dom_store.specs.Refusals.{is_element, is_of}
use Rattle.dom_store.proofs.StandLaws.{up_none}
use Rattle.tree_laws.specs.Reached.{IsAtLevel, IsReached}
use Rattle.tree_laws.proofs.Levels.{IsBelow, below_first, chain_of_descendant, descendant_of_chain, level_above}
use Rattle.box_limits.proofs.Among.{IsIn, contained, found, kept}
use Rattle.box_limits.proofs.Levels.{child_below, child_line, first_below, level_below, no_line, up_to}
use Rattle.box_limits.proofs.Origins.{IsText}
use Rattle.edit_scope.specs.Scope.{every_element}
use Rattle.edit_scope.proofs.Taking.{IsCovered, IsTaken, Source, what_at}

-- ---- all elements

pub element_lives : (o : Option Entry) → unwrap_or (option_map (λ entry. is_element entry.what) o) false ≡ true → is_some o ≡ true
element_lives None is = is
element_lives (Some entry) is = refl

pub every_in : (state : State) → IsReached state → (number : ℕ) → is_of is_element state number ≡ true → IsIn number (every_element state)
every_in state reached number is =
    let (level, low, at) = reached.reached number (element_lives (state.node_at number) is) in
    kept (is_of is_element state) number (inclusive_descendants state 0) (up_to state 64 (suc level) 0 number (omega (arith, low)) (level_below state level number at)) is

-- ---- the nodes after an edit

-- a node lived, below the same nodes
pub record IsSame (state next : State) (number : ℕ) : Type 0 where
  pub lived : lives state number ≡ true
  pub parent : parent_at next number ≡ parent_at state number
  pub whats : what_at next number ≡ what_at state number
  pub ancestors : (most : ℕ) → ancestors_to most next (Some number) ≡ ancestors_to most state (Some number)
  pub lines : (most : ℕ) → line_to most next (Some number) ≡ line_to most state (Some number)

module _ (rules : List Ruling) (state next : State) (scoped : List ℕ) (t : IsTaken rules state next scoped) where
  -- the edit makes or changes it, or a node above it
  abbrev IsInside : (level number : ℕ) → Type 0
  IsInside level number = (first : ℕ) × IsCovered next scoped first × IsIn number (below_levels 0 (suc level) next first)

  abbrev ComesTo : (level number : ℕ) → Type 0
  ComesTo level number = IsInside level number ⊎ ((is_of is_element next number ≡ false) ⊎ IsSame state next number)

  told_text : (number : ℕ) (entry : Entry) → next.node_at number ≡ Some entry → IsText entry.what → is_of is_element next number ≡ false
  told_text number entry here (letters, is) =
      ap (λ (o : Option Entry). unwrap_or (option_map (λ entry. is_element entry.what) o) false) here ∙ ap is_element is

  not_element : (what : What) → IsText what → IsElement what → ⊥
  not_element what (letters, is) here = subst IsElement is here

  -- where the parents stand where they stood
  module _ (number : ℕ) (entry old : Entry) (here : next.node_at number ≡ Some entry) (was : state.node_at number ≡ Some old) (whats : old.what ≡ entry.what) (parents : old.parent ≡ entry.parent)
      (lines : (most : ℕ) → line_to most next entry.parent ≡ line_to most state old.parent) (above : (most : ℕ) → ancestors_to most next entry.parent ≡ ancestors_to most state old.parent) where
    stands : parent_at next number ≡ entry.parent
    stands = ap (λ (o : Option Entry). option_and_then (λ entry. entry.parent) o) here

    stood : parent_at state number ≡ old.parent
    stood = ap (λ (o : Option Entry). option_and_then (λ entry. entry.parent) o) was

    ancestors_by : (most : ℕ) → ancestors_to most next (Some number) ≡ ancestors_to most state (Some number)
    unfolding ancestors_to
    ancestors_by zero = refl
    ancestors_by (suc most) = ap (λ (l : List ℕ). number ∷ l) (ap (ancestors_to most next) stands ∙ above most ∙ sym (ap (ancestors_to most state) stood))

    lines_by : (most : ℕ) → line_to most next (Some number) ≡ line_to most state (Some number)
    unfolding line_to
    lines_by zero = refl
    lines_by (suc most) =
        ap (line_with (line_to most next)) here
        ∙ ap (λ (l : List What). entry.what ∷ l) (lines most)
        ∙ ap (λ (w : What). w ∷ line_to most state old.parent) (sym whats)
        ∙ sym (ap (line_with (line_to most state)) was)

    same_by : IsSame state next number
    same_by = record {
      lived = ap (λ (o : Option Entry). is_some o) was;
      parent = stands ∙ sym parents ∙ sym stood;
      whats = ap (option_map (λ (e : Entry). e.what)) here ∙ ap (λ (w : What). Some w) (sym whats) ∙ sym (ap (option_map (λ (e : Entry). e.what)) was);
      ancestors = ancestors_by;
      lines = lines_by;
    }

  html_stays : (entry : Entry) → next.node_at 0 ≡ Some entry → entry.parent ≡ None → IsElement entry.what → Source state next scoped 0 entry → ComesTo 0 0
  html_stays entry here top is (inl there) = inl (0, there, first_below next 0 0)
  html_stays entry here top is (inr (inl (parent, above, none))) = absurd (none-some parent (sym top ∙ above))
  html_stays entry here top is (inr (inr (inl (old, was, parents, told)))) = absurd (not_element entry.what told is)
  html_stays entry here top is (inr (inr (inr (old, was, parents, whats)))) =
      inr (inr (same_by 0 entry old here was whats parents
      (λ most. ap (line_to most next) top ∙ no_line next t.later.whole most ∙ sym (ap (line_to most state) (parents ∙ top) ∙ no_line state t.before.whole most))
      (λ most. ap (ancestors_to most next) top ∙ up_none most next ∙ sym (ap (ancestors_to most state) (parents ∙ top) ∙ up_none most state))))

  child_stays : (level parent number : ℕ) (entry : Entry) → next.node_at number ≡ Some entry → entry.parent ≡ Some parent → IsSame state next parent → Source state next scoped number entry → ComesTo (suc level) number
  child_stays level parent number entry here under same (inl first) = inl (number, first, first_below next (suc level) number)
  child_stays level parent number entry here under same (inr (inl (upper, above, none))) =
      let is : parent ≡ upper = same_Some parent upper (sym under ∙ above) in
      absurd (false≢true (sym (ap (λ (o : Option Entry). is_some o) (ap state.node_at is ∙ none)) ∙ same.lived))
  child_stays level parent number entry here under same (inr (inr (inl (old, was, parents, told)))) = inr (inl (told_text number entry here told))
  child_stays level parent number entry here under same (inr (inr (inr (old, was, over, whats)))) =
      inr (inr (same_by number entry old here was whats over
      (λ most. ap (line_to most next) under ∙ same.lines most ∙ sym (ap (line_to most state) (over ∙ under)))
      (λ most. ap (ancestors_to most next) under ∙ same.ancestors most ∙ sym (ap (ancestors_to most state) (over ∙ under)))))

  stays : (level number : ℕ) → IsAtLevel next level number → ComesTo level number
  stays zero number at =
      let html = t.later.rooted.html in
      subst (ComesTo 0) (sym at) (html_stays html.0 html.1 html.3 html.2 (t.source 0 html.0 html.1))
  stays (suc level) number (parent, above, contains) =
      let there = found number (children_at next parent) contains in
      let (entry, here, stands, lines) = child_line next t.later.whole t.later.reached level parent number above there in
      elim (stays level parent above) [
        | inl (first, among, at) ↦ inl (first, among, child_below next (suc level) first parent number at there)
        | inr (inl told) ↦ absurd (subst (IsIn number) (t.later.leaves parent told) there)
        | inr (inr same) ↦ child_stays level parent number entry here stands same (t.source number entry here)
      ]

-- ---- elements that aren't in the scope, and the nodes above them

chain_on : (state : State) (one two top between number : ℕ) → IsBelow state top one between → IsBelow state between two number → (levels : ℕ) × IsBelow state top levels number
chain_on state one zero top between number below same = (one, subst (IsBelow state top one) (sym same) below)
chain_on state one (suc two) top between number below (parent, lower, there) = let (levels, all) = chain_on state one two top between parent below lower in (suc levels, (parent, all, there))

module _ (rules : List Ruling) (state now : State) (scoped : List ℕ) (t : IsTaken rules state now scoped) (number : ℕ) (element : is_of is_element now number ≡ true) (outside : IsIn number scoped → ⊥) where
  not_leaf : (levels upper : ℕ) → IsBelow now upper levels number → is_of is_element now upper ≡ false → ⊥
  not_leaf zero upper below told = false≢true (sym told ∙ (ap (is_of is_element now) (sym below) ∙ element))
  not_leaf (suc levels) upper below told = let (child, there, rest) = below_first now levels upper number below in subst (IsIn child) (t.later.leaves upper told) (found child (children_at now upper) there)

  pub same_above : (levels upper : ℕ) → IsBelow now upper levels number → IsSame state now upper
  same_above levels upper below =
      let (level, low, at) = t.later.reached.reached number (element_lives (now.node_at number) element) in
      let (above, sum, its) = level_above now t.later.whole levels level upper number at below in
      elim (stays rules state now scoped t above upper its) [
        | inl (first, among, there) ↦
            let (few, none, less, over) = chain_of_descendant now (suc above) 0 first upper (contained upper (below_levels 0 (suc above) now first) there) in
            let (many, all) = chain_on now few levels first upper number over below in
            let (top, whole_sum, top_at) = level_above now t.later.whole many level first number at all in
            absurd (outside (among number element
            (found number (inclusive_descendants now first) (descendant_of_chain now many 0 greatest_depth first number (omega arith) (omega (arith, low, whole_sum)) all))))
        | inr (inl told) ↦ absurd (not_leaf levels upper below told)
        | inr (inr same) ↦ same
      ]

  pub itself_same : IsSame state now number
  itself_same = same_above 0 number refl
