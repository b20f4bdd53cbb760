-- A document that can be open can be open where more numbers were drawn since.
use Rattle.std.proofs.Common.{◌≡◌, ◌∙◌, ◌≤◌, ℕ, zero, suc, List, refl, ap, sym, subst, arith, Option, Some, None}
use Rattle.std.specs.List.{All}
use Rattle.std.proofs.lemmas.List.Elements.{All-weaker}
use Rattle.style_types.specs.declared.style.Style.{Style}
use Rattle.style_types.specs.Tree as styled
use Rattle.style_types.specs.Tree.{Nodes}
use Rattle.css_types.specs.Rule.{Ruling}
use Rattle.dom_store.specs.Building.{with_next}
use Rattle.dom_store.specs.Opening.{greatest_count}
use Rattle.dom_store.specs.State as dom
use Rattle.dom_store.specs.State.{State, Tree, What, greatest_depth, line, line_to, line_with, tree_of}
use Rattle.tree_laws.specs.Weight.{bytes}
use Rattle.cascade.specs.Winners.{winners}
use Rattle.computed.specs.Step.{style_of}
use Rattle.style_tree.specs.Styling.{body_style, from_html, html_style, kind_of, root_style, style_at, styled_document, styled_in, unturned}
use Rattle.style_types.specs.Initial.{initial}
use Rattle.box_gen.specs.Limit.{IsWithinLimits}
use Rattle.undo_log.specs.History.{Standing, state_with}
use Rattle.undo_log.specs.Laws.{DocumentsStayWhereMoreAreDrawn}
use Rattle.session.specs.History.{CanStand}

-- ---- styles

module _ (next : ℕ) (state : State) where
  line_on : (most : ℕ) (from : Option ℕ) → line_to most (with_next next state) from ≡ line_to most state from
  unfolding line_to
  line_on zero from = refl
  line_on (suc most) None = refl
  line_on (suc most) (Some number) = λ i. line_with (λ above. line_on most above i) (state.node_at number)

  module _ (rules : List Ruling) where
    html_on : html_style rules (with_next next state) ≡ html_style rules state
    html_on = ap (λ (whats : List What). style_of initial (winners rules whats initial)) (line_on greatest_depth (Some 0))

    body_on : body_style rules (with_next next state) ≡ body_style rules state
    body_on = λ i. unturned (html_on i) (winners rules (line_on greatest_depth (Some 1) i) (html_on i))

    style_on : (number : ℕ) (what : What) (parent : Style) → style_at rules (with_next next state) number what parent ≡ style_at rules state number what parent
    style_on number (dom.element tag id classes dir own) parent = ap (λ (whats : List What). style_of parent (winners rules whats parent)) (line_on greatest_depth (Some number))
    style_on number (dom.text letters) parent = refl

    nodes_on : (parent : Style) (tree : Tree) → styled_in rules (with_next next state) parent tree ≡ styled_in rules state parent tree
    unfolding styled_in
    nodes_on parent dom.none = refl
    nodes_on parent (dom.node number what inner behind) =
        ap (λ (style : Style). styled.node number (kind_of what) style (styled_in rules (with_next next state) style inner) (styled_in rules (with_next next state) parent behind)) (style_on number what parent)
        ∙ λ i. styled.node number (kind_of what) (style_at rules state number what parent) (nodes_on (style_at rules state number what parent) inner i) (nodes_on parent behind i)

    tree_on : (tree : Tree) → from_html rules (with_next next state) tree ≡ from_html rules state tree
    tree_on dom.none = refl
    tree_on (dom.node number html dom.none behind) = refl
    tree_on (dom.node number html (dom.node body_number body inner others) behind) =
        (λ i. styled.node number (kind_of html) (root_style (html_on i) (body_on i))
        (styled.node body_number (kind_of body) (body_on i) (styled_in rules (with_next next state) (body_on i) inner) styled.none) styled.none)
        ∙ ap (λ (nodes : Nodes). styled.node number (kind_of html) (root_style (html_style rules state) (body_style rules state))
        (styled.node body_number (kind_of body) (body_style rules state) nodes styled.none) styled.none) (nodes_on (body_style rules state) inner)

    document_on : tree_of (with_next next state) ≡ tree_of state → styled_document rules (with_next next state) ≡ styled_document rules state
    document_on same = ap (from_html rules (with_next next state)) same ∙ tree_on (tree_of state)

-- ---- states of a history

module _ (stay : DocumentsStayWhereMoreAreDrawn) (drawn more most much : ℕ) (le : drawn ≤ more) (room : most ≤ much) where
  pub stands_on : (standing : Standing) → CanStand drawn most standing → CanStand more much standing
  stands_on standing can =
      let tree = (state_with drawn standing).tree in
      let on = stay tree more le in
      let weight = on.weight bytes can.whole in
      let short = can.short in
      record {
        rooted = on.rooted can.rooted;
        said = on.said can.said;
        whole = on.whole can.whole;
        reached = on.reached can.reached;
        held = on.held can.held;
        leaves = λ number is. can.leaves number is;
        few = subst (λ (n : ℕ). n ≤ greatest_count) (sym (on.count can.whole)) can.few;
        short = omega (arith, weight, short, room);
        rules = can.rules;
        within = subst IsWithinLimits (sym (document_on more tree standing.rules on.tree)) can.within;
      }

  pub stand_on : (states : List Standing) → All (CanStand drawn most) states → All (CanStand more much) states
  stand_on states all = All-weaker (CanStand drawn most) (CanStand more much) stands_on states all
