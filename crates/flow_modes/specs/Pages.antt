-- The page of boxes, and of a styled tree, in each way. CSS Writing Modes 4, 6.2 and 6.4.
use Rattle.std.specs.Prelude.{◌≡◌, List, Option}
use Rattle.face_api.specs.Table.{Table}
use Rattle.wm_units.specs.declared.view.View.{View}
use Rattle.style_types.specs.Tree.{Nodes}
use Rattle.box_gen.specs.Boxes.{root_boxes}
use Rattle.box_gen.specs.Tree.{Boxes}
use Rattle.place_map.specs.Placed.{Page}
use Rattle.place_map.specs.Placing.{place}
use Rattle.page_turn.specs.Turning.{turned}
use Rattle.relayout.specs.Flow.{layout}
use Rattle.mode_ways.specs.Ways.{Way, boxes_in, mode_of, nodes_in, plain}

-- boxes laid out in a view, before any of them is shifted
abbrev pub page_of : (faces : List (Option Table)) → View → Boxes → Page
page_of faces view boxes = place view (layout faces view.inline view.block boxes)

-- boxes in a way have the page that they have in a horizontal flow, turned to the mode of the way
abbrev pub PagesAreTurned : Type 0
PagesAreTurned = (faces : List (Option Table)) (view : View) (way : Way) (boxes : Boxes)
    → page_of faces view (boxes_in way boxes) ≡ turned (mode_of way) (page_of faces view (boxes_in plain boxes))

-- so have the boxes of a styled tree
abbrev pub StyledPagesAreTurned : Type 0
StyledPagesAreTurned = (faces : List (Option Table)) (view : View) (way : Way) (nodes : Nodes)
    → page_of faces view (root_boxes (nodes_in way nodes)) ≡ turned (mode_of way) (page_of faces view (root_boxes (nodes_in plain nodes)))
