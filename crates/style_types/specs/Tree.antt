-- Styled trees, without where they lie in memory.
use Rattle.std.specs.Prelude.{ℕ, suc, ◌+◌, List, [], ◌∷◌, map}
use Rattle.std.specs.String.{string_bytes}
use Rattle.style_types.specs.declared.style.Style.{Style}
use Rattle.style_types.specs.declared.tree.StyledKind as code_kind
use Rattle.style_types.specs.declared.tree.StyledKind.TheVariants as code_kinds
use Rattle.style_types.specs.declared.tree.StyledNode.{StyledNode, fold-StyledNode}
use Rattle.style_types.specs.declared.tree.StyledNode.TheOpen.{StyledNode-F}

pub data NodeKind : Type 0 where
  element : NodeKind
  line_break : NodeKind
  text : (bytes : List ℕ) → NodeKind

-- nodes that stand one after the other, each with those inside it
pub data Nodes : Type 0 where
  none : Nodes
  node : (number : ℕ) (kind : NodeKind) (style : Style) (inner next : Nodes) → Nodes

abbrev pub kind_of : code_kind.StyledKind → NodeKind
kind_of code_kinds.Element = element
kind_of code_kinds.Break = line_break
kind_of (code_kinds.Text letters) = text (string_bytes letters)

-- one after the other, each put before those that follow it
abbrev pub in_line : List (Nodes → Nodes) → Nodes
in_line [] = none
in_line (before ∷ others) = before (in_line others)

abbrev pub node_step : StyledNode-F (Nodes → Nodes) → Nodes → Nodes
node_step n next = node n.node (kind_of n.kind) n.style (in_line n.children.items) next

-- a node before others
abbrev pub before : StyledNode → Nodes → Nodes
before = fold-StyledNode (Nodes → Nodes) node_step

-- the tree of a node
abbrev pub nodes_of : StyledNode → Nodes
nodes_of root = before root none

-- the trees of nodes that stand one after the other
abbrev pub all_nodes_of : List StyledNode → Nodes
all_nodes_of roots = in_line (map before roots)

-- how many nodes there are
abbrev pub nodes_in : Nodes → ℕ
nodes_in none = 0
nodes_in (node number kind style inner next) = suc (nodes_in inner + nodes_in next)
