use Rattle.std.proofs.Common.{◌≡◌, ap, ◌∙◌, arith}
use Rattle.fragment_types.specs.Fragment.{kind_of}
use Rattle.fragment_types.specs.declared.item.BoxName.{BoxName}
use Rattle.place_map.specs.Parts.{parts_of}
use Rattle.place_map.proofs.PartLists.{fewer_at, fewer_inside, near_at, near_inside, part_with}
use Rattle.rel_shift.specs.Shifting.{moved}
use Rattle.rel_shift.specs.Totals.{total_in}
use Rattle.rel_shift.specs.declared.insets.Shift.{Shift}
use Rattle.rel_shift.proofs.Trees.{all_shifted, one_more, part_shifted}
use Rattle.rel_shift.proofs.shifting.+shifted.Goals as goal

pub shifted_part-shifted_parts-requires : goal.shifted_part-shifted_parts-requires
shifted_part-shifted_parts-requires t c = (
  omega (arith, fewer_inside c.args.part.now c.children.result.now c.children.ensures, c.decreases),
  (near_inside c.args.part.now c.children.result.now c.children.ensures c.requires.near, c.requires.within),
)

pub shifted_part-returns : goal.shifted_part-returns
shifted_part-returns t c =
    let p = c.args.part.now in
    let shifts = total_in c.args.totals.now in
    let by : c.total.result ≡ shifts p.name.node = c.total.ensures ∙ ap (λ (n : BoxName). shifts n.node) c.name-name.ensures in
    part_shifted shifts p c.new.result c.moved-rect.result (kind_of c.in_ok-kind.kind) c.children.result.now c.in_ok-children.children.items
    (c.new.ensures ∙ ap (λ (n : BoxName). part_with n c.moved-rect.result (kind_of c.in_ok-kind.kind) (parts_of c.in_ok-children.children.items)) c.name-name.ensures)
    (c.moved-rect.ensures.value ∙ ap (λ (s : Shift). moved s c.rect.result) by ∙ ap (moved (shifts p.name.node)) c.rect.ensures)
    (c.in_ok-kind.ensures ∙ c.kind.ensures) c.in_ok-children.ensures c.children.ensures

pub shifted_parts-shifted_part-requires : goal.shifted_parts-shifted_part-requires
shifted_parts-shifted_part-requires t c = (
  omega (arith, fewer_at c.args.parts.now c.loop-part.part-index c.part-item.result c.loop-part-test.true c.part-item.is, c.decreases),
  (near_at c.args.parts.now c.loop-part.part-index c.part-item.result c.loop-part-test.true c.part-item.is c.requires.near, c.requires.within),
)

pub shifted_parts-loop-part-preserved : goal.shifted_parts-loop-part-preserved
shifted_parts-loop-part-preserved t c =
    let more = one_more (total_in c.args.totals.now) c.args.parts.now c.loop-part.part-index c.part-item.result c.loop-part.made.items c.in_ok-shifted_part.field-0 _
    c.loop-part-test.true c.part-item.is c.in_ok-shifted_part.ensures c.loop-part.invariant in
    rw c.in_ok-push.ensures.items more

pub shifted_parts-returns : goal.shifted_parts-returns
shifted_parts-returns t c = all_shifted (total_in c.args.totals.now) c.args.parts.now c.loop-part.part-index c.loop-part.made.items _ c.loop-part-test.false c.loop-part.invariant
