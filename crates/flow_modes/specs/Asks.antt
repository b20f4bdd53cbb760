-- What the layout of boxes asks for in each way: which boxes are laid out, under which sizes of their containing blocks, and which texts are
-- prepared.
use Rattle.std.specs.Prelude.{◌≡◌, List, Option}
use Rattle.face_api.specs.Table.{Table}
use Rattle.wm_units.specs.declared.view.View.{View}
use Rattle.box_gen.specs.Places.{paragraphs}
use Rattle.box_gen.specs.Tree.{Boxes}
use Rattle.relayout.specs.Asks.{asks}
use Rattle.mode_ways.specs.Ways.{Way, boxes_in, plain}

-- the same boxes are laid out as in a horizontal flow, under the same constraints, and the same ones hold a paragraph
pub record AsksAlike : Type 0 where
  pub pairs : (faces : List (Option Table)) (view : View) (way : Way) (boxes : Boxes) → asks faces view (boxes_in way boxes) ≡ asks faces view (boxes_in plain boxes)
  pub texts : (way : Way) (boxes : Boxes) → paragraphs (boxes_in way boxes) ≡ paragraphs boxes
