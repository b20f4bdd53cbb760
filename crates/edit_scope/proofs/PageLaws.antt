-- Pages: their boxes, and the names of these.
use Rattle.std.proofs.Common.{◌≡◌, ◌∙◌, ℕ, ◌+◌, ◌≤◌, Bool, true, false, List, [], refl, ap, sym, arith, Option, if◌then◌else◌}
use Rattle.std.specs.Prelude.{nat_eq}
use Rattle.style_types.specs.declared.style.Style.{Style}
use Rattle.style_types.specs.Tree as styled
use Rattle.style_types.specs.Tree.{Nodes}
use Rattle.css_types.specs.Rule.{Ruling}
use Rattle.dom_store.specs.State.{What, Entry, State, Tree, node, none, tree_of, tree_to, tree_with}
use Rattle.tree_laws.proofs.Trees.{met, once}
use Rattle.style_tree.specs.Styling.{body_style, from_html, kind_of, style_at, styled_document, styled_in, with_body}
use Rattle.box_gen.specs.Boxes.{content, made, root_boxes}
use Rattle.box_gen.specs.Places.{numbers}
use Rattle.box_gen.proofs.NameLaws.{named_once, one_if, tally, tally_both}
use Rattle.box_limits.proofs.Judged.{html_children}
use Rattle.edit_scope.specs.Boxes.{PagesAreBoxesOfHtml, body_in}
use Rattle.edit_scope.specs.Pages.{PagesNameBoxesOnce}
use Rattle.edit_scope.specs.Scope.{element_style}

pub pages_are_boxes : PagesAreBoxesOfHtml
unfolding tree_to
pages_are_boxes rules state rooted =
    let html = rooted.html.0 in
    let style : Style = element_style rules state 0 in
    ap (λ (o : Option Entry). root_boxes (from_html rules state (tree_with o 0 (tree_to 63 state) none))) rooted.html.1
    ∙ ap (λ (l : List ℕ). root_boxes (with_body rules state 0 html.what (tree_to 63 state l))) rooted.html.4
    ∙ ap (λ (o : Option Entry). root_boxes (with_body rules state 0 html.what (tree_with o 1 (tree_to 62 state) none))) rooted.body.1
    ∙ sym (ap (λ (o : Option Entry). made 0 style (content (body_in rules state (tree_with o 1 (tree_to 62 state) none)))) rooted.body.1)
    ∙ sym (ap (λ (l : List ℕ). made 0 style (content (body_in rules state (tree_to 63 state l)))) (html_children rules state rooted))

-- ---- no two of their boxes have one name

one_is : (told : Bool) → one_if told ≡ (if told then 1 else 0)
one_is true = refl
one_is false = refl

module _ (rules : List Ruling) (state : State) (number : ℕ) where
  abbrev tallied : Nodes → ℕ
  tallied nodes = tally nat_eq number (numbers nodes)

  nodes_met : (style : Style) (tree : Tree) → tallied (styled_in rules state style tree) ≤ met number tree
  unfolding styled_in tally
  nodes_met style none = omega arith
  nodes_met style (node other what inner next) =
      let own : Style = style_at rules state other what style in
      omega (
        arith,
        one_is (nat_eq number other),
        tally_both nat_eq number (numbers (styled_in rules state own inner)) (numbers (styled_in rules state style next)),
        nodes_met own inner,
        nodes_met style next,
      )

  body_met : (html : What) (root : ℕ) (tree : Tree) → tallied (with_body rules state root html tree) ≤ one_if (nat_eq number root) + met number tree
  unfolding tally
  body_met html root none = omega arith
  body_met html root (node other body inner next) = omega (
    arith,
    one_is (nat_eq number other),
    tally_both nat_eq number (numbers (styled.node other (kind_of body) (body_style rules state) (styled_in rules state (body_style rules state) inner) styled.none)) [],
    tally_both nat_eq number (numbers (styled_in rules state (body_style rules state) inner)) [],
    nodes_met (body_style rules state) inner,
  )

  document_met : (tree : Tree) → tallied (from_html rules state tree) ≤ met number tree
  unfolding tally
  document_met none = omega arith
  document_met (node root html inner next) = omega (arith, one_is (nat_eq number root), body_met html root inner)

pub pages_name_once : PagesNameBoxesOnce
pages_name_once rules state rooted whole =
    named_once (styled_document rules state) (λ number. omega (arith, document_met rules state number (tree_of state), once state whole 64 number))
