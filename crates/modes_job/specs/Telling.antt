-- The flow of a document and its page in each of four modes, as they are listed. CSS Writing Modes 4, 6.2 and 6.4.
use Rattle.std.specs.Prelude.{◌≡◌, List, ℕ, ◌++◌, Option}
use Rattle.face_api.specs.Table.{Table}
use Rattle.wm_modes.specs.declared.mode.WritingMode.TheVariants.{VerticalRl, SidewaysRl, SidewaysLr}
use Rattle.wm_units.specs.declared.view.View.{View}
use Rattle.style_types.specs.declared.style.Combine.TheVariants.{Never}
use Rattle.style_types.specs.declared.style.TextOrientation.TheVariants.{Sideways}
use Rattle.css_types.specs.Rule.{Ruling}
use Rattle.dom_store.specs.State.{State}
use Rattle.place_map.specs.Placed.{Page}
use Rattle.mode_ways.specs.Ways.{across, down, left, right}
use Rattle.page_turn.specs.Turning.{turned}
use Rattle.listing.specs.Listing.{flow_listing, listing}
use Rattle.style_modes.specs.Turnable.{IsTurnable}
use Rattle.page_modes.specs.Pages.{flow_of, page_in}

-- a flow, and its pages in horizontal-tb, vertical-rl, sideways-rl and sideways-lr, one after the other
abbrev pub listings : (flow in_tb in_rl in_sideways_rl in_sideways_lr : Page) → List ℕ
listings flow in_tb in_rl in_sideways_rl in_sideways_lr = flow_listing flow ++ (listing in_tb ++ (listing in_rl ++ (listing in_sideways_rl ++ listing in_sideways_lr)))

-- those of a document: it is set in each mode, with sideways text, and laid out there
abbrev pub modes_of : (faces : List (Option Table)) → View → List Ruling → State → List ℕ
modes_of faces view rules state =
    listings (page_in faces view (across Sideways Never) rules state) (page_in faces view (across Sideways Never) rules state) (page_in faces view down rules state)
    (page_in faces view (right Sideways Never) rules state) (page_in faces view (left Sideways Never) rules state)

-- those of a page of the flow: it is turned to each mode
abbrev pub turns_of : (flow : Page) → List ℕ
turns_of flow = listings flow flow (turned VerticalRl flow) (turned SidewaysRl flow) (turned SidewaysLr flow)

-- ---- laws

-- those of a document that can be turned are those of its flow
abbrev pub ModesAreTurns : Type 0
ModesAreTurns = (faces : List (Option Table)) (view : View) (rules : List Ruling) (state : State) → IsTurnable rules state → modes_of faces view rules state ≡ turns_of (flow_of faces view rules state)
