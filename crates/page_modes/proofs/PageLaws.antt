-- The page of a document in a way is its flow, turned.
use Rattle.std.proofs.Common.{◌≡◌, ◌∙◌, List, Option, refl, sym, ap}
use Rattle.face_api.specs.Table.{Table}
use Rattle.wm_modes.specs.declared.mode.WritingMode.TheVariants.{HorizontalTb}
use Rattle.wm_units.specs.declared.view.View.{View}
use Rattle.style_types.specs.Tree.{Nodes}
use Rattle.box_gen.specs.Boxes.{root_boxes}
use Rattle.box_gen.specs.Tree.{Boxes, box, none}
use Rattle.place_map.specs.Placed.{Page}
use Rattle.relayout.specs.Boxed.{boxed}
use Rattle.relayout.specs.Flow.{flow_step, laid_out}
use Rattle.rel_shift.specs.Positions.{positions_of}
use Rattle.rel_shift.specs.Shifting.{shift}
use Rattle.rel_shift.proofs.TurnLaws.{shifts_turn}
use Rattle.style_tree.specs.Styling.{styled_document}
use Rattle.mode_ways.specs.Ways.{Way, boxes_in, mode_of, nodes_in, plain}
use Rattle.page_turn.specs.Turning.{turned}
use Rattle.flow_modes.specs.Pages as flow
use Rattle.flow_modes.proofs.BoxLaws.{nodes_make_boxes_alike}
use Rattle.flow_modes.proofs.PageLaws.{pages_are_turned, styled_pages_are_turned}
use Rattle.style_modes.proofs.Documents.{turnable_documents_are_plain, turnable_documents_turn}
use Rattle.page_modes.specs.Pages.{DocumentsHaveOneFlow, UnshiftedPagesTurn, flow_page_of, page_of}

module _ (faces : List (Option Table)) (view : View) (way : Way) where
  -- boxes in a horizontal flow: where there are some, the root of their page is a box
  shifted_alike : (boxes : Boxes) (nodes : Nodes)
      → shift (turned (mode_of way) (flow.page_of faces view (boxes_in plain boxes))) (positions_of (nodes_in way nodes))
      ≡ turned (mode_of way) (shift (turned HorizontalTb (flow.page_of faces view (boxes_in plain boxes))) (positions_of nodes))
  unfolding boxes_in flow_step laid_out boxed
  shifted_alike none nodes = refl
  shifted_alike (box name style content inner next) nodes = shifts_turn way (flow.page_of faces view (boxes_in plain (box name style content inner next))) nodes tt

  nodes_alike : (nodes : Nodes) → nodes_in plain nodes ≡ nodes → page_of faces view (nodes_in way nodes) ≡ turned (mode_of way) (page_of faces view nodes)
  nodes_alike nodes is_plain =
      let boxes = root_boxes nodes in
      let in_plain : boxes_in plain boxes ≡ boxes = sym (nodes_make_boxes_alike plain nodes) ∙ ap root_boxes is_plain in
      ap (λ (made : Boxes). shift (flow.page_of faces view made) (positions_of (nodes_in way nodes))) (nodes_make_boxes_alike way nodes)
      ∙ ap (λ (page : Page). shift page (positions_of (nodes_in way nodes))) (pages_are_turned faces view way boxes)
      ∙ shifted_alike boxes nodes
      ∙ ap (λ (page : Page). turned (mode_of way) (shift page (positions_of nodes))) (sym (pages_are_turned faces view plain boxes))
      ∙ ap (λ (made : Boxes). turned (mode_of way) (shift (flow.page_of faces view made) (positions_of nodes))) in_plain

pub documents_have_one_flow : DocumentsHaveOneFlow
documents_have_one_flow faces view way rules state upright turnable =
    ap (page_of faces view) (turnable_documents_turn way rules state upright turnable)
    ∙ nodes_alike faces view way (styled_document rules state) (turnable_documents_are_plain rules state turnable)

-- before shifts: the flow in the plain way is that of the document, turned to horizontal-tb
pub unshifted_pages_turn : UnshiftedPagesTurn
unshifted_pages_turn = record {
  turn = λ faces view way rules state upright turnable.
      ap (flow_page_of faces view) (turnable_documents_turn way rules state upright turnable)
      ∙ styled_pages_are_turned faces view way (styled_document rules state)
      ∙ ap (λ (nodes : Nodes). turned (mode_of way) (flow_page_of faces view nodes)) (turnable_documents_are_plain rules state turnable);
  stay = λ faces view rules state turnable.
      let nodes = styled_document rules state in
      let is_plain = turnable_documents_are_plain rules state turnable in
      ap (λ (n : Nodes). turned HorizontalTb (flow_page_of faces view n)) (sym is_plain)
      ∙ sym (styled_pages_are_turned faces view plain nodes)
      ∙ ap (flow_page_of faces view) is_plain;
}
