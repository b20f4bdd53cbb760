-- The pages of a document in four modes, and its flow. CSS Writing Modes 4, 6.2 and 6.4; CSS Positioned Layout 3, 3.
use Rattle.std.specs.Prelude.{◌≡◌, false, List, Option}
use Rattle.face_api.specs.Table.{Table}
use Rattle.wm_modes.specs.declared.mode.WritingMode.TheVariants.{HorizontalTb}
use Rattle.wm_units.specs.declared.view.View.{View}
use Rattle.style_types.specs.Style.{is_upright}
use Rattle.style_types.specs.Tree.{Nodes}
use Rattle.css_types.specs.Rule.{Ruling}
use Rattle.dom_store.specs.State.{State}
use Rattle.box_gen.specs.Boxes.{root_boxes}
use Rattle.place_map.specs.Placed.{Page}
use Rattle.place_map.specs.Placing.{place}
use Rattle.rel_shift.specs.Positions.{positions_of}
use Rattle.rel_shift.specs.Shifting.{shift}
use Rattle.relayout.specs.Flow.{layout}
use Rattle.style_tree.specs.Styling.{styled_document}
use Rattle.mode_ways.specs.Ways.{Way, mode_of, orientation_of}
use Rattle.page_turn.specs.Turning.{turned}
use Rattle.style_modes.specs.Turnable.{IsTurnable}
use Rattle.style_modes.specs.Turned.{turned_document}

-- ---- a page

-- the flow of the boxes of a styled tree, carried to the page, before any of it is shifted
abbrev pub flow_page_of : (faces : List (Option Table)) → View → Nodes → Page
flow_page_of faces view nodes = place view (layout faces view.inline view.block (root_boxes nodes))

-- the page of a styled tree: the fragments of that are shifted as their nodes are
abbrev pub page_of : (faces : List (Option Table)) → View → Nodes → Page
page_of faces view nodes = shift (flow_page_of faces view nodes) (positions_of nodes)

-- the page of a document that is set in a way
abbrev pub page_in : (faces : List (Option Table)) → View → Way → List Ruling → State → Page
page_in faces view way rules state = page_of faces view (turned_document way rules state)

-- its flow: the page that it has in horizontal-tb
abbrev pub flow_of : (faces : List (Option Table)) → View → List Ruling → State → Page
flow_of faces view rules state = page_of faces view (styled_document rules state)

-- ---- laws

-- in each way in which no text is upright the page of a document that can be turned is its flow, turned to the mode of the way
abbrev pub DocumentsHaveOneFlow : Type 0
DocumentsHaveOneFlow = (faces : List (Option Table)) (view : View) (way : Way) (rules : List Ruling) (state : State) → is_upright (orientation_of way) ≡ false → IsTurnable rules state
    → page_in faces view way rules state ≡ turned (mode_of way) (flow_of faces view rules state)

-- so it is before any of it is shifted; and turned to horizontal-tb it stays as it is
pub record UnshiftedPagesTurn : Type 0 where
  pub turn : (faces : List (Option Table)) (view : View) (way : Way) (rules : List Ruling) (state : State) → is_upright (orientation_of way) ≡ false → IsTurnable rules state
      → flow_page_of faces view (turned_document way rules state) ≡ turned (mode_of way) (flow_page_of faces view (styled_document rules state))
  pub stay : (faces : List (Option Table)) (view : View) (rules : List Ruling) (state : State) → IsTurnable rules state
      → turned HorizontalTb (flow_page_of faces view (styled_document rules state)) ≡ flow_page_of faces view (styled_document rules state)
