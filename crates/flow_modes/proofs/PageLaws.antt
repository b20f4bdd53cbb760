-- The page of boxes in a way is the page of their flow, turned; and so is that of a styled tree.
use Rattle.std.proofs.Common.{◌∙◌, refl, sym, ap, List, Option, ℤ}
use Rattle.face_api.specs.Table.{Table}
use Rattle.style_types.specs.declared.style.Style.{Style}
use Rattle.fragment_types.specs.Fragment.{Pieces}
use Rattle.fragment_types.specs.declared.item.BoxName.{BoxName}
use Rattle.box_gen.specs.Boxes.{root_boxes}
use Rattle.box_gen.specs.Tree.{Boxes, Content, box, none}
use Rattle.place_map.specs.Placing.{place}
use Rattle.page_turn.specs.Laws.{IsRooted}
use Rattle.page_turn.specs.Rects.{IsTurning}
use Rattle.page_turn.specs.Turning.{turned}
use Rattle.page_turn.proofs.PageLaws.{are_placed}
use Rattle.relayout.specs.Boxed.{boxed}
use Rattle.relayout.specs.Flow.{flow_step, laid_out, layout}
use Rattle.flow_modes.specs.Pages.{PagesAreTurned, StyledPagesAreTurned, page_of}
use Rattle.mode_ways.specs.Ways.{Way, across, down, left, right, boxes_in, mode_of, plain}
use Rattle.flow_modes.proofs.BoxLaws.{nodes_make_boxes_alike}
use Rattle.flow_modes.proofs.FlowLaws.{layouts_alike}

turning : (way : Way) → IsTurning (mode_of way)
turning (across orientation combine) = refl
turning down = refl
turning (right orientation combine) = refl
turning (left orientation combine) = refl

rooted : (faces : List (Option Table)) (inline_size block_size : ℤ) (name : BoxName) (style : Style) (content : Content) (inner next : Boxes)
    → IsRooted (layout faces inline_size block_size (boxes_in plain (box name style content inner next)))
unfolding boxes_in flow_step laid_out boxed
rooted faces inline_size block_size name style content inner next = tt

pub pages_are_turned : PagesAreTurned
unfolding boxes_in
pages_are_turned faces view way none = refl
pages_are_turned faces view way (box name style content inner next) =
    let boxes = box name style content inner next in
    let flow = layout faces view.inline view.block (boxes_in plain boxes) in
    ap (place view) (layouts_alike faces view.inline view.block way boxes)
    ∙ are_placed (mode_of way) view flow (turning way) (rooted faces view.inline view.block name style content inner next)
    ∙ ap (λ (pieces : Pieces). turned (mode_of way) (place view pieces)) (sym (layouts_alike faces view.inline view.block plain boxes))

pub styled_pages_are_turned : StyledPagesAreTurned
styled_pages_are_turned faces view way nodes =
    ap (page_of faces view) (nodes_make_boxes_alike way nodes)
    ∙ pages_are_turned faces view way (root_boxes nodes)
    ∙ ap (λ (boxes : Boxes). turned (mode_of way) (page_of faces view boxes)) (sym (nodes_make_boxes_alike plain nodes))
