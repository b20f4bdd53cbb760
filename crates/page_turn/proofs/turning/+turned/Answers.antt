use Rattle.std.proofs.Common.{ap, ◌∙◌, arith}
use Rattle.fragment_types.specs.Fragment.{kind_of}
use Rattle.fragment_types.specs.declared.item.BoxName.{BoxName}
use Rattle.place_map.specs.Parts.{parts_of}
use Rattle.place_map.proofs.PartLists.{fewer_at, fewer_inside, near_at, near_inside, part_with}
use Rattle.page_turn.specs.Kinds.{kind_in}
use Rattle.page_turn.specs.Rects.{rect_turned}
use Rattle.page_turn.proofs.Trees.{all_turned, one_more, part_turned}
use Rattle.page_turn.proofs.turning.+turned.Goals as goal

pub turned_part-turned_parts-requires : goal.turned_part-turned_parts-requires
turned_part-turned_parts-requires t c = (
  omega (arith, fewer_inside c.args.part.now c.children.result.now c.children.ensures, c.decreases),
  near_inside c.args.part.now c.children.result.now c.children.ensures c.requires.near,
)

pub turned_part-returns : goal.turned_part-returns
turned_part-returns t c =
    let turn = c.args.turn in
    let p = c.args.part.now in
    part_turned turn.mode turn.view p c.new.result c.rect-rect.result (kind_of c.in_ok-kind.kind) c.children.result.now c.in_ok-children.children.items
    (c.new.ensures ∙ ap (λ (n : BoxName). part_with n c.rect-rect.result (kind_of c.in_ok-kind.kind) (parts_of c.in_ok-children.children.items)) c.name.ensures)
    (c.rect-rect.ensures.value ∙ ap (rect_turned turn.mode turn.view) c.rect.ensures) (c.in_ok-kind.ensures ∙ ap (kind_in turn.mode) c.kind.ensures)
    c.in_ok-children.ensures c.children.ensures

pub turned_parts-turned_part-requires : goal.turned_parts-turned_part-requires
turned_parts-turned_part-requires t c = (
  omega (arith, fewer_at c.args.parts.now c.loop-part.part-index c.part-item.result c.loop-part-test.true c.part-item.is, c.decreases),
  near_at c.args.parts.now c.loop-part.part-index c.part-item.result c.loop-part-test.true c.part-item.is c.requires.near,
)

pub turned_parts-loop-part-preserved : goal.turned_parts-loop-part-preserved
turned_parts-loop-part-preserved t c =
    let more = one_more c.args.turn.mode c.args.turn.view c.args.parts.now c.loop-part.part-index c.part-item.result c.loop-part.made.items c.in_ok-turned_part.field-0 _
    c.loop-part-test.true c.part-item.is c.in_ok-turned_part.ensures c.loop-part.invariant in
    rw c.in_ok-push.ensures.items more

pub turned_parts-returns : goal.turned_parts-returns
turned_parts-returns t c = all_turned c.args.turn.mode c.args.turn.view c.args.parts.now c.loop-part.part-index c.loop-part.made.items _ c.loop-part-test.false c.loop-part.invariant
