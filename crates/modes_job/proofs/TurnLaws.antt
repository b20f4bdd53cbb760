-- The pages of a document in four modes are its flow, turned.
use Rattle.std.proofs.Common.{◌≡◌, ◌∙◌, List, Option, refl, sym, ap}
use Rattle.face_api.specs.Table.{Table}
use Rattle.wm_modes.specs.declared.mode.WritingMode.TheVariants.{HorizontalTb, VerticalRl, SidewaysRl, SidewaysLr}
use Rattle.wm_units.specs.declared.view.View.{View}
use Rattle.style_types.specs.declared.style.Combine.TheVariants.{Never}
use Rattle.style_types.specs.declared.style.TextOrientation.TheVariants.{Sideways}
use Rattle.style_types.specs.Initial.{initial}
use Rattle.css_types.specs.Rule.{Ruling}
use Rattle.dom_store.specs.State.{State}
use Rattle.place_map.specs.Placed.{Page}
use Rattle.mode_ways.specs.Ways.{across, down, left, plain, right}
use Rattle.page_turn.specs.Turning.{turned}
use Rattle.listing.specs.Listing.{flow_listing, listing}
use Rattle.style_modes.specs.Turnable.{IsTurnable}
use Rattle.page_modes.specs.Pages.{DocumentsHaveOneFlow, flow_of, page_in}
use Rattle.modes_job.specs.Telling.{ModesAreTurns, listings, modes_of, turns_of}

module _ (one : DocumentsHaveOneFlow) (faces : List (Option Table)) (view : View) (rules : List Ruling) (state : State) (turnable : IsTurnable rules state) where
  -- the flow is a page in horizontal-tb already
  flow_stays : turned HorizontalTb (flow_of faces view rules state) ≡ flow_of faces view rules state
  unfolding initial
  flow_stays = sym (one faces view plain rules state refl turnable)

  in_tb : page_in faces view (across Sideways Never) rules state ≡ flow_of faces view rules state
  in_tb = one faces view (across Sideways Never) rules state refl turnable ∙ flow_stays

  pub turns : modes_of faces view rules state ≡ turns_of (flow_of faces view rules state)
  turns i =
      listings (in_tb i) (in_tb i) (one faces view down rules state refl turnable i) (one faces view (right Sideways Never) rules state refl turnable i)
      (one faces view (left Sideways Never) rules state refl turnable i)
