-- `html` and `body` in the tree of a document.
use Rattle.std.proofs.Common.{◌≡◌, ◌∙◌, ℕ, List, [], ◌∷◌, ◌++◌, sym, ap, subst, Option, Some}
use Rattle.std.specs.Prelude.{option_map}
use Rattle.std.specs.Borrow.{Bor}
use Rattle.std.proofs.lemmas.Option.{same_Some}
use Rattle.dom_store.specs.declared.node.Node.{Node}
use Rattle.style_types.specs.declared.style.Style.{Style}
use Rattle.style_types.specs.declared.tree.StyledNode.{StyledNode}
use Rattle.style_types.specs.declared.tree.StyledNode.TheOpen.{StyledNode-F}
use Rattle.style_types.specs.declared.tree.StyledNode.TheViews.{roll-StyledNode}
use Rattle.css_types.specs.Rule.{Ruling}
use Rattle.style_types.specs.Tree as styled
use Rattle.style_types.specs.Tree.{Nodes, all_nodes_of, nodes_of}
use Rattle.dom_store.specs.State as dom
use Rattle.dom_store.specs.State.{Entry, State, What, Tree, IsRooted, entry_of, tree_of, tree_to, tree_with, what_of}
use Rattle.style_tree.specs.Styling.{IsBodyOf, IsHtmlOf, kind_of, root_style, html_style, body_style, styled_document, styled_in, from_html, unturned, winners_at}
use Rattle.style_tree.proofs.Joining.{rolled}

module _ (state : State) (rooted : IsRooted state) where
  html : Entry
  html = rooted.html.0

  body : Entry
  body = rooted.body.0

  -- the tree begins with the two
  two : tree_of state ≡ dom.node 0 html.what (dom.node 1 body.what (tree_to 62 state body.children) dom.none) dom.none
  unfolding tree_to html body
  two =
      ap (λ (o : Option Entry). tree_with o 0 (tree_to 63 state) dom.none) rooted.html.1
      ∙ ap (λ (l : List ℕ). dom.node 0 html.what (tree_to 63 state l) dom.none) rooted.html.4
      ∙ ap (λ (o : Option Entry). dom.node 0 html.what (tree_with o 1 (tree_to 62 state) dom.none) dom.none) rooted.body.1

  pub document_is : (rules : List Ruling) (root inner : Nodes) → IsBodyOf rules state (body_style rules state) inner → IsHtmlOf state (root_style (html_style rules state) (body_style rules state)) inner root
      → root ≡ styled_document rules state
  unfolding html body
  document_is rules root inner is_body is_html =
      is_html html rooted.html.1
      ∙ ap (λ (b : Nodes). styled.node 0 (kind_of html.what) (root_style (html_style rules state) (body_style rules state)) b styled.none) (is_body body rooted.body.1)
      ∙ sym (ap (from_html rules state) two)

  pub document_by : (rules : List Ruling) (above own shown : Style) (root inner : Nodes) → above ≡ html_style rules state → own ≡ unturned above (winners_at rules state 1 above) → shown ≡ root_style above own
      → IsBodyOf rules state own inner → IsHtmlOf state shown inner root → root ≡ styled_document rules state
  document_by rules above own shown root inner is_html is_body is_shown within whole =
      let body_is : own ≡ body_style rules state = is_body ∙ ap (λ (h : Style). unturned h (winners_at rules state 1 h)) is_html in
      let shown_is : shown ≡ root_style (html_style rules state) (body_style rules state) =
      is_shown ∙ ap (λ (h : Style). root_style h own) is_html ∙ ap (root_style (html_style rules state)) body_is in
      document_is rules root inner (subst (λ (s : Style). IsBodyOf rules state s inner) body_is within) (subst (λ (s : Style). IsHtmlOf state s inner root) shown_is whole)

-- a node of these fields
pub node_is : (f : StyledNode-F StyledNode) (kind : styled.NodeKind) → styled.kind_of f.kind ≡ kind
    → nodes_of (roll-StyledNode f) ≡ styled.node f.node kind f.style (all_nodes_of f.children.items) styled.none
node_is f kind is = rolled f styled.none ∙ ap (λ (k : styled.NodeKind). styled.node f.node k f.style (all_nodes_of f.children.items) styled.none) is

module _ (state : State) (style : Style) (found : Option (Bor Node)) (node : Bor Node) (is : found ≡ Some node) where
  entry_is : (number : ℕ) (entry : Entry) → option_map (λ n. entry_of n.now) found ≡ state.node_at number → state.node_at number ≡ Some entry → entry_of node.now ≡ entry
  entry_is number entry at here = same_Some (entry_of node.now) entry (sym (ap (option_map (λ (n : Bor Node). entry_of n.now)) is) ∙ at ∙ here)

  pub as_body : (rules : List Ruling) (inner made : Nodes) → option_map (λ n. entry_of n.now) found ≡ state.node_at 1
      → inner ≡ styled_in rules state style (tree_to 62 state node.now.children.items)
      → made ≡ styled.node 1 (kind_of (what_of node.now.kind)) style inner styled.none → IsBodyOf rules state style made
  as_body rules inner made at within styled_ entry here =
      styled_ ∙ ap (λ (i : Nodes). styled.node 1 (kind_of (what_of node.now.kind)) style i styled.none) within
      ∙ ap (λ (e : Entry). styled.node 1 (kind_of e.what) style (styled_in rules state style (tree_to 62 state e.children)) styled.none) (entry_is 1 entry at here)

  pub as_html : (body : StyledNode) (made : Nodes) (nodes : List StyledNode) → option_map (λ n. entry_of n.now) found ≡ state.node_at 0
      → nodes ≡ [] ++ body ∷ []
      → made ≡ styled.node 0 (kind_of (what_of node.now.kind)) style (all_nodes_of nodes) styled.none → IsHtmlOf state style (nodes_of body) made
  as_html body made nodes at one styled_ entry here =
      styled_ ∙ ap (λ (l : List StyledNode). styled.node 0 (kind_of (what_of node.now.kind)) style (all_nodes_of l) styled.none) one
      ∙ ap (λ (e : Entry). styled.node 0 (kind_of e.what) style (nodes_of body) styled.none) (entry_is 0 entry at here)
