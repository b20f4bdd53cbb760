-- How much a styled tree may have, and that its boxes can be laid out then.
use Rattle.std.specs.Prelude.{ℕ, suc, ◌+◌, ◌-◌, ◌≤◌, ◌^◌, max, List, length}
use Rattle.style_types.specs.Tree as styled
use Rattle.style_types.specs.Tree.{NodeKind, Nodes, nodes_in}
use Rattle.css_types.specs.Rule.{Ruling}
use Rattle.dom_store.specs.Opening.{greatest_count}
use Rattle.dom_store.specs.Standing.{live_count}
use Rattle.dom_store.specs.State.{State}
use Rattle.tree_laws.specs.Weight.{bytes, total}
use Rattle.tree_laws.specs.Wholeness.{IsWhole}
use Rattle.style_tree.specs.Styling.{AreBounded, styled_document}
use Rattle.box_gen.specs.Tree.{Boxes, count, height}
use Rattle.box_gen.specs.Boxes.{root_boxes}
use Rattle.relayout.specs.Fit.{AreFit, weight}

-- the bytes of a text
abbrev pub bytes_of : NodeKind → ℕ
bytes_of styled.element = 0
bytes_of styled.line_break = 0
bytes_of (styled.text letters) = length letters

-- the bytes of all texts together
abbrev pub bytes_in : Nodes → ℕ
bytes_in styled.none = 0
bytes_in (styled.node number kind style inner next) = bytes_of kind + (bytes_in inner + bytes_in next)

-- how many nodes stand one inside the other, at most
abbrev pub depth : Nodes → ℕ
depth styled.none = 0
depth (styled.node number kind style inner next) = max (suc (depth inner)) (depth next)

-- a styled tree is within the limits of a document
pub record IsWithin (nodes : Nodes) : Type 0 where
  pub few : nodes_in nodes ≤ 65536
  pub short : bytes_in nodes ≤ 1048576
  pub low : depth nodes ≤ 64
  pub bounded : AreBounded nodes

-- boxes can be laid out
pub record CanBeLaidOut (boxes : Boxes) : Type 0 where
  pub low : height boxes ≤ 130
  pub few : count boxes ≤ 2 ^ 18
  pub light : weight boxes ≤ 2 ^ 60 - 2 ^ 50
  pub fit : AreFit boxes

abbrev pub BoxesFit : Type 0
BoxesFit = (nodes : Nodes) → IsWithin nodes → CanBeLaidOut (root_boxes nodes)

-- ---- a document

-- a whole document is within the limits where its nodes and their texts are
abbrev pub DocumentsFit : Type 0
DocumentsFit = (rules : List Ruling) (state : State) → IsWhole state → live_count state ≤ greatest_count → total bytes state ≤ 1048576 → AreBounded (styled_document rules state)
    → IsWithin (styled_document rules state)
