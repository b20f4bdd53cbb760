-- A styled document has no more nodes, bytes and levels than the document.
use Rattle.std.proofs.Common.{◌≡◌, ℕ, zero, suc, ◌≤◌, List, [], ◌∷◌, Option, Some, None, max, refl, arith}
use Rattle.html_tokens.specs.declared.tag.Tag.{Tag}
use Rattle.html_tokens.specs.declared.tag.Tag.TheVariants as tags
use Rattle.style_types.specs.Tree.{nodes_in}
use Rattle.style_types.specs.declared.style.Style.{Style}
use Rattle.css_types.specs.Rule.{Ruling}
use Rattle.dom_store.specs.State as dom
use Rattle.dom_store.specs.State.{Entry, State, Tree, What, tree_of, tree_to, tree_with}
use Rattle.tree_laws.specs.Laws.{CountsAreTotals, TreesWeighNoMore}
use Rattle.tree_laws.specs.Weight.{bytes, one, weight_in}
use Rattle.style_tree.specs.Styling.{body_style, from_html, kind_by, kind_of, style_at, styled_in}
use Rattle.session.specs.Limits.{DocumentsFit, bytes_in, bytes_of, depth}

-- ---- styled nodes

no_bytes : (tag : Tag) → bytes_of (kind_by tag) ≡ 0
no_bytes tags.Html = refl
no_bytes tags.Body = refl
no_bytes tags.Div = refl
no_bytes tags.Section = refl
no_bytes tags.Article = refl
no_bytes tags.Header = refl
no_bytes tags.Footer = refl
no_bytes tags.Main = refl
no_bytes tags.Nav = refl
no_bytes tags.Aside = refl
no_bytes tags.Address = refl
no_bytes tags.P = refl
no_bytes tags.H1 = refl
no_bytes tags.H2 = refl
no_bytes tags.H3 = refl
no_bytes tags.H4 = refl
no_bytes tags.H5 = refl
no_bytes tags.H6 = refl
no_bytes tags.Blockquote = refl
no_bytes tags.Figure = refl
no_bytes tags.Figcaption = refl
no_bytes tags.Ul = refl
no_bytes tags.Ol = refl
no_bytes tags.Li = refl
no_bytes tags.Span = refl
no_bytes tags.A = refl
no_bytes tags.B = refl
no_bytes tags.Strong = refl
no_bytes tags.I = refl
no_bytes tags.Em = refl
no_bytes tags.U = refl
no_bytes tags.S = refl
no_bytes tags.Small = refl
no_bytes tags.Code = refl
no_bytes tags.Abbr = refl
no_bytes tags.Cite = refl
no_bytes tags.Mark = refl
no_bytes tags.Bdo = refl
no_bytes tags.Br = refl

what_kind_bytes : (what : What) → bytes_of (kind_of what) ≡ bytes what
what_kind_bytes (dom.element tag id classes dir own) = no_bytes tag
what_kind_bytes (dom.text letters) = refl

tree_depth : Tree → ℕ
tree_depth dom.none = 0
tree_depth (dom.node number what inner next) = max (suc (tree_depth inner)) (tree_depth next)

depth_with : (entry : Option Entry) (number d : ℕ) (below : List ℕ → Tree) (next : Tree) → ((ns : List ℕ) → tree_depth (below ns) ≤ d) → tree_depth next ≤ suc d → tree_depth (tree_with entry number below next) ≤ suc d
unfolding tree_depth
depth_with None number d below next low more = more
depth_with (Some entry) number d below next low more = let l = low entry.children in omega (arith, l, more)

depth_to : (d : ℕ) (state : State) (ns : List ℕ) → tree_depth (tree_to d state ns) ≤ d
unfolding tree_depth tree_to
depth_to zero state ns = omega arith
depth_to (suc d) state [] = omega arith
depth_to (suc d) state (n ∷ ns) = depth_with (state.node_at n) n d (tree_to d state) (tree_to (suc d) state ns) (depth_to d state) (depth_to (suc d) state ns)

module _ (rules : List Ruling) (state : State) where
  styled_count : (parent : Style) (tree : Tree) → nodes_in (styled_in rules state parent tree) ≡ weight_in one tree
  unfolding styled_in weight_in
  styled_count parent dom.none = refl
  styled_count parent (dom.node number what inner next) =
      let first = styled_count (style_at rules state number what parent) inner in
      let other = styled_count parent next in
      omega (arith, first, other)

  styled_bytes : (parent : Style) (tree : Tree) → bytes_in (styled_in rules state parent tree) ≡ weight_in bytes tree
  unfolding styled_in weight_in
  styled_bytes parent dom.none = refl
  styled_bytes parent (dom.node number what inner next) =
      let first = styled_bytes (style_at rules state number what parent) inner in
      let other = styled_bytes parent next in
      let here = what_kind_bytes what in
      omega (arith, first, other, here)

  styled_depth : (parent : Style) (tree : Tree) → depth (styled_in rules state parent tree) ≡ tree_depth tree
  unfolding styled_in tree_depth
  styled_depth parent dom.none = refl
  styled_depth parent (dom.node number what inner next) = let one = styled_depth (style_at rules state number what parent) inner in let other = styled_depth parent next in omega (arith, one, other)

  document_count : (tree : Tree) → nodes_in (from_html rules state tree) ≤ weight_in one tree
  unfolding weight_in
  document_count dom.none = omega arith
  document_count (dom.node number html dom.none next) = omega arith
  document_count (dom.node number html (dom.node body_number body inner others) next) = let first = styled_count (body_style rules state) inner in omega (arith, first)

  document_bytes : (tree : Tree) → bytes_in (from_html rules state tree) ≤ weight_in bytes tree
  unfolding weight_in
  document_bytes dom.none = omega arith
  document_bytes (dom.node number html dom.none next) = omega arith
  document_bytes (dom.node number html (dom.node body_number body inner others) next) =
      let below = styled_bytes (body_style rules state) inner in
      let first = what_kind_bytes html in
      let second = what_kind_bytes body in
      omega (arith, below, first, second)

  document_depth : (tree : Tree) → depth (from_html rules state tree) ≤ tree_depth tree
  unfolding tree_depth
  document_depth dom.none = omega arith
  document_depth (dom.node number html dom.none next) = omega arith
  document_depth (dom.node number html (dom.node body_number body inner others) next) = let one = styled_depth (body_style rules state) inner in omega (arith, one)

pub documents_fit : TreesWeighNoMore → CountsAreTotals → DocumentsFit
documents_fit no_more totals rules state whole few short bounded =
    let count = document_count rules state (tree_of state) in
    let letters = document_bytes rules state (tree_of state) in
    let low = document_depth rules state (tree_of state) in
    let met = no_more one state whole in
    let read = no_more bytes state whole in
    let live = totals state in
    let levels = depth_to 64 state (0 ∷ []) in
    record {
      few = omega (arith, count, met, live, few);
      short = omega (arith, letters, read, short);
      low = omega (arith, low, levels);
      bounded = bounded;
    }
