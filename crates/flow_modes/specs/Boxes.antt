-- The boxes of a document in each way. CSS 2, 9.2.1 and 9.2.2.
use Rattle.std.specs.Prelude.{◌≡◌}
use Rattle.style_types.specs.Tree.{Nodes}
use Rattle.box_gen.specs.Boxes.{root_boxes}
use Rattle.mode_ways.specs.Ways.{Way, boxes_in, nodes_in}

-- nodes in a way make the boxes in that way of those that the nodes make
abbrev pub NodesMakeBoxesAlike : Type 0
NodesMakeBoxesAlike = (way : Way) (nodes : Nodes) → root_boxes (nodes_in way nodes) ≡ boxes_in way (root_boxes nodes)
