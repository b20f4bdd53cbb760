-- Styles of elements that aren't in the scope of an edit, and boxes of those that it doesn't touch.
use Rattle.std.proofs.Common.{◌≡◌, ◌∙◌, ℕ, zero, suc, true, List, refl, ap, sym, subst, Option, Some, None, inl, inr}
use Rattle.css_types.specs.Rule.{Ruling}
use Rattle.style_types.specs.declared.style.Style.{Style}
use Rattle.style_types.specs.Initial.{initial}
use Rattle.dom_store.specs.State.{What, State, greatest_depth, line}
use Rattle.dom_store.specs.Standing.{ancestors_to, children_at, parent_at}
use Rattle.dom_store.specs.Refusals.{is_element, is_of}
use Rattle.dom_store.proofs.StandLaws.{up_none}
use Rattle.tree_laws.specs.Reached.{IsAtLevel}
use Rattle.tree_laws.proofs.Levels.{IsBelow, below_first, chain_of_level}
use Rattle.cascade.specs.Winners.{winners}
use Rattle.computed.specs.Step.{style_of}
use Rattle.style_tree.specs.Styling.{body_style, html_style, root_style, unturned}
use Rattle.box_limits.specs.Lines.{place_on}
use Rattle.box_limits.proofs.Among.{IsIn, found, only}
use Rattle.box_limits.proofs.Judged.{html_children}
use Rattle.edit_scope.specs.Scope.{display_at, element_style, holder_above, holder_in}
use Rattle.edit_scope.proofs.HolderLaws.{chain_of_ancestor, child_of_parent, holder_among, holders_same}
use Rattle.edit_scope.proofs.LineLaws.{element_lives, same_above}
use Rattle.edit_scope.proofs.Taking.{IsTaken}

module _ (rules : List Ruling) (state now : State) (scoped : List ℕ) (t : IsTaken rules state now scoped) (number : ℕ) (element : is_of is_element now number ≡ true)
    (outside : IsIn number scoped → ⊥) (body : number ≡ 0 → line now 1 ≡ line state 1) where
  line_above : (levels upper : ℕ) → IsBelow now upper levels number → line now upper ≡ line state upper
  line_above levels upper below = (same_above rules state now scoped t number element outside levels upper below).lines 64

  -- the lines of `html` and `body`
  roots : (line now 0 ≡ line state 0) × (line now 1 ≡ line state 1)
  roots = let (level, low, at) = t.later.reached.reached number (element_lives (now.node_at number) element) in by level at
    where
      by : (level : ℕ) → IsAtLevel now level number → (line now 0 ≡ line state 0) × (line now 1 ≡ line state 1)
      by zero at = (line_above 0 0 at, body at)
      by (suc level) at =
          let chain = chain_of_level now (suc level) number at in
          let (child, there, rest) = below_first now level 0 number chain in
          let second : child ≡ 1 = only 1 child (subst (IsIn child) (html_children rules now t.later.rooted) (found child (children_at now 0) there)) in
          (line_above (suc level) 0 chain, subst (λ (n : ℕ). line now n ≡ line state n) second (line_above level child rest))

  html_stays : html_style rules now ≡ html_style rules state
  html_stays = ap (λ (l : List What). style_of initial (winners rules l initial)) roots.0

  pub body_stays : body_style rules now ≡ body_style rules state
  body_stays =
      ap (λ (l : List What). unturned (style_of initial (winners rules l initial)) (winners rules (line now 1) (style_of initial (winners rules l initial)))) roots.0
      ∙ ap (λ (l : List What). unturned (style_of initial (winners rules (line state 0) initial)) (winners rules l (style_of initial (winners rules (line state 0) initial)))) roots.1

  pub root_stays : element_style rules now 0 ≡ element_style rules state 0
  root_stays = ap (λ (s : Style). root_style s (body_style rules now)) html_stays ∙ ap (root_style (html_style rules state)) body_stays

  pub style_above : (upper levels : ℕ) → IsBelow now upper levels number → element_style rules now upper ≡ element_style rules state upper
  style_above zero levels below = root_stays
  style_above (suc upper) levels below = ap (λ (l : List What). (place_on rules l).style) (line_above levels (suc upper) below)

  pub style_stays : element_style rules now number ≡ element_style rules state number
  style_stays = style_above number 0 refl

  -- ---- round it

  above_by : (o : Option ℕ) → parent_at now number ≡ o → ancestors_to greatest_depth now o ≡ ancestors_to greatest_depth state o
  above_by None is = up_none greatest_depth now ∙ sym (up_none greatest_depth state)
  above_by (Some parent) is =
      (same_above rules state now scoped t number element outside 1 parent (parent, refl, (child_of_parent now t.later.whole t.later.reached number parent is).0)).ancestors greatest_depth

  chain_by : (upper : ℕ) (o : Option ℕ) → parent_at now number ≡ o → IsIn upper (ancestors_to greatest_depth now o) → (levels : ℕ) × IsBelow now upper levels number
  chain_by upper None is there = absurd (subst (IsIn upper) (up_none greatest_depth now) there)
  chain_by upper (Some parent) is there =
      let (levels, low, below) = chain_of_ancestor now t.later.whole t.later.reached greatest_depth upper parent there in
      (suc levels, (parent, below, (child_of_parent now t.later.whole t.later.reached number parent is).0))

  pub holder_stays : holder_above rules now number ≡ holder_above rules state number
  holder_stays =
      holders_same (display_at rules now) (display_at rules state) (ancestors_to greatest_depth now (parent_at now number))
      (λ upper there. let (levels, below) = chain_by upper (parent_at now number) refl there in ap (λ (s : Style). s.display) (style_above upper levels below))
      ∙ ap (holder_in (display_at rules state))
      (above_by (parent_at now number) refl
      ∙ ap (ancestors_to greatest_depth state) (same_above rules state now scoped t number element outside 0 number refl).parent)

  pub around_stays : element_style rules now (holder_above rules now number) ≡ element_style rules state (holder_above rules state number)
  around_stays =
      elim (holder_among (display_at rules now) (ancestors_to greatest_depth now (parent_at now number))) [
        | inl there ↦ let (levels, below) = chain_by (holder_above rules now number) (parent_at now number) refl there in style_above (holder_above rules now number) levels below
        | inr none ↦ subst (λ (n : ℕ). element_style rules now n ≡ element_style rules state n) (sym none) root_stays
      ]
      ∙ ap (element_style rules state) holder_stays
