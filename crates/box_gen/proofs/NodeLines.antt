-- Nodes that stand one after the other, opened at one of them.
use Rattle.std.proofs.Common.{◌≡◌, ◌∙◌, ap, sym, ℕ, ◌+◌, ◌<◌, ◌≤◌, List, length, drop, get_or}
use Rattle.std.proofs.lemmas.List.{at_drop_more, at_drop_all}
use Rattle.style_types.specs.declared.tree.StyledNode.{StyledNode}
use Rattle.style_types.specs.declared.tree.StyledNode.TheFolds.{fold_out-StyledNode}
use Rattle.style_types.specs.declared.tree.StyledNode.TheViews.{out-StyledNode}
use Rattle.style_types.specs.Tree as styled
use Rattle.style_types.specs.Tree.{Nodes, node_step, kind_of, before, nodes_of, all_nodes_of}
use Rattle.box_gen.specs.Boxes.{role_of}
use Rattle.box_gen.specs.Building.{code_of, role_in}

-- a node before others, opened
pub opened : (n : StyledNode) (next : Nodes) → before n next
    ≡ styled.node (out-StyledNode n).node (kind_of (out-StyledNode n).kind) (out-StyledNode n).style (all_nodes_of (out-StyledNode n).children.items) next
opened n next = ap (λ (f : Nodes → Nodes). f next) (fold_out-StyledNode (Nodes → Nodes) node_step n)

-- the role of an opened node
pub role_opened : (n : StyledNode) → role_in (nodes_of n) ≡ code_of (role_of (kind_of (out-StyledNode n).kind) (out-StyledNode n).style)
role_opened n = ap role_in (opened n styled.none)

-- what is left begins with this node
pub left_at : (nodes : List StyledNode) (i : ℕ) (n : StyledNode) → i < length nodes → n ≡ get_or nodes i n
    → all_nodes_of (drop i nodes) ≡ before n (all_nodes_of (drop (i + 1) nodes))
left_at nodes i n within is = at_drop_more all_nodes_of nodes i n within ∙ ap (λ (m : StyledNode). before m (all_nodes_of (drop (i + 1) nodes))) (sym is)

pub none_left : (nodes : List StyledNode) (i : ℕ) → length nodes ≤ i → all_nodes_of (drop i nodes) ≡ styled.none
none_left nodes i past = at_drop_all all_nodes_of nodes i past
