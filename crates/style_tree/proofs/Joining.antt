-- Styled nodes one after the other.
use Rattle.std.proofs.Common.{◌≡◌, suc, List, [], ◌∷◌, ◌++◌, refl, sym, ap, subst, arith}
use Rattle.std.specs.List.{All}
use Rattle.style_types.specs.declared.tree.StyledNode.{StyledNode}
use Rattle.style_types.specs.declared.tree.StyledNode.TheOpen.{StyledNode-F}
use Rattle.style_types.specs.declared.tree.StyledNode.TheViews.{roll-StyledNode, out-StyledNode}
use Rattle.style_types.specs.declared.tree.StyledNode.TheFolds.{fold-roll-StyledNode, fold_out-StyledNode}
use Rattle.style_types.specs.Style.{IsBounded}
use Rattle.style_types.specs.Tree.{Nodes, none, node, kind_of, before, all_nodes_of, nodes_of, node_step}
use Rattle.style_tree.specs.Styling.{AreBounded}

-- nodes before others
unfoldable pub before_all : List StyledNode → Nodes → Nodes
before_all [] next = next
before_all (n ∷ others) next = before n (before_all others next)

pub all_is : (ns : List StyledNode) → all_nodes_of ns ≡ before_all ns none
unfolding before_all
all_is [] = refl
all_is (n ∷ others) = ap (before n) (all_is others)

pub one_more : (ns : List StyledNode) (n : StyledNode) (next : Nodes) → before_all (ns ++ n ∷ []) next ≡ before_all ns (before n next)
unfolding before_all
one_more [] n next = refl
one_more (first ∷ others) n next = ap (before first) (one_more others n next)

-- a node is that of its fields
pub rolled : (f : StyledNode-F StyledNode) (next : Nodes) → before (roll-StyledNode f) next ≡ node f.node (kind_of f.kind) f.style (all_nodes_of f.children.items) next
rolled f next = ap (λ (g : Nodes → Nodes). g next) (fold-roll-StyledNode (Nodes → Nodes) node_step f)

-- ---- numbers

-- a node's numbers are within their bounds where those of its style and of those inside it are
pub bounded_rolled : (f : StyledNode-F StyledNode) → IsBounded f.style → AreBounded (all_nodes_of f.children.items) → AreBounded (nodes_of (roll-StyledNode f))
unfolding AreBounded
bounded_rolled f own inner = subst AreBounded (sym (rolled f none)) (own, inner, tt)

-- what stands behind a node doesn't change what is inside it
opened : (n : StyledNode) (after : Nodes) → before n after ≡ node (out-StyledNode n).node (kind_of (out-StyledNode n).kind) (out-StyledNode n).style (all_nodes_of (out-StyledNode n).children.items) after
opened n after = ap (λ (g : Nodes → Nodes). g after) (fold_out-StyledNode (Nodes → Nodes) node_step n)

bounded_before : (n : StyledNode) (next : Nodes) → AreBounded (nodes_of n) → AreBounded next → AreBounded (before n next)
unfolding AreBounded
bounded_before n next this others =
    let own = subst AreBounded (opened n none) this in
    subst AreBounded (sym (opened n next)) (own.0, own.1, others)

pub bounded_all : (ns : List StyledNode) → All (λ n. AreBounded (nodes_of n)) ns → AreBounded (all_nodes_of ns)
unfolding AreBounded
bounded_all [] each = tt
bounded_all (n ∷ others) each = bounded_before n (all_nodes_of others) (each 0 n (omega arith)) (bounded_all others (λ k d lt. each (suc k) d (omega (arith, lt))))
