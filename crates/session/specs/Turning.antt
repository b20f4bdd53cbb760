-- Documents that are open and that no declaration ties to one mode: their flow, and their page in each mode. CSS Writing Modes 4, 6.2 and 6.4.
use Rattle.std.specs.Prelude.{◌≡◌, false, List, Option}
use Rattle.face_api.specs.Table.{Table}
use Rattle.style_types.specs.Style.{is_upright}
use Rattle.style_types.specs.declared.style.Combine.TheVariants.{Never}
use Rattle.style_types.specs.declared.style.TextOrientation.TheVariants.{Sideways}
use Rattle.wm_units.specs.declared.view.View.{View}
use Rattle.dom_store.specs.State.{state_of}
use Rattle.edits.specs.State.{State}
use Rattle.place_map.specs.Placed.{Page}
use Rattle.mode_ways.specs.Ways.{Way, across, mode_of, orientation_of}
use Rattle.page_turn.specs.Turning.{turned}
use Rattle.style_modes.specs.Turnable.{IsTurnable}
use Rattle.style_modes.specs.Turned.{turned_document}
use Rattle.session.specs.declared.session.Session.{Session}
use Rattle.page_modes.specs.Pages.{flow_page_of, page_of}
use Rattle.session.specs.Document.{styled_of}
use Rattle.session.specs.State.{rules_in}

-- the way of a flow that can be turned to each of the four modes: horizontal-tb, with sideways text
abbrev pub flow_way : Way
flow_way = across Sideways Never

module _ {I : Type 0} {D : I → Type 0} where
  -- the flow of its document set so, carried to the page, before any of it is shifted
  abbrev pub turned_flow_in : (faces : List (Option Table)) → Session I D → Page
  turned_flow_in faces session = flow_page_of faces session.view (turned_document flow_way (rules_in session) (state_of session.document))

-- ---- laws

-- a document that can be turned has, set in a way in which no text is upright, its own page, turned to the mode of the way
abbrev pub TurnablePagesTurn : Type 0
TurnablePagesTurn = (faces : List (Option Table)) (state : State) (view : View) (way : Way) → IsTurnable state.rules state.tree → is_upright (orientation_of way) ≡ false
    → page_of faces view (turned_document way state.rules state.tree) ≡ turned (mode_of way) (page_of faces view (styled_of state))

-- and so it is of its flow, before any of it is shifted
abbrev pub TurnableFlowsTurn : Type 0
TurnableFlowsTurn = (faces : List (Option Table)) (state : State) (view : View) (way : Way) → IsTurnable state.rules state.tree → is_upright (orientation_of way) ≡ false
    → flow_page_of faces view (turned_document way state.rules state.tree) ≡ turned (mode_of way) (flow_page_of faces view (styled_of state))
