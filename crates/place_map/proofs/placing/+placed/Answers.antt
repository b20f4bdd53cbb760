use Rattle.std.proofs.Common.{ap, ◌∙◌, List, arith}
use Rattle.fragment_types.specs.declared.fragment.Fragment.{Fragment}
use Rattle.fragment_types.specs.Fragment.{pieces_of}
use Rattle.place_map.specs.Placing.{placed}
use Rattle.place_map.proofs.Trees.{all_placed, fewer_at, fewer_below, near_at, near_below, part_placed}
use Rattle.place_map.proofs.placing.+placed.Goals as goal

pub placed_part-returns : goal.placed_part-returns
placed_part-returns t c =
    part_placed c.args.frame c.inside-inside.result c.args.fragment.now c.in_ok-shared.shared c.on_page-rect.result c.in_ok-children.children.items _
    c.new.ensures c.on_page-rect.ensures c.inside-inside.ensures c.in_ok-shared.ensures
    (c.in_ok-children.ensures ∙ ap (λ (fs : List Fragment). placed c.inside-inside.result (pieces_of fs)) (c.deref-2.ensures.value ∙ ap (λ v. v.items) c.deref.ensures))

pub placed_parts-returns : goal.placed_parts-returns
placed_parts-returns t c = all_placed c.args.frame c.args.fragments.now c.loop-fragment.fragment-index c.loop-fragment.made.items _ c.loop-fragment-test.false c.loop-fragment.invariant

pub placed_part-placed_parts-requires : goal.placed_part-placed_parts-requires
placed_part-placed_parts-requires t c = (
  omega (arith, fewer_below c.args.fragment.now c.deref.result.now c.deref-2.result.now c.deref.ensures c.deref-2.ensures.value, c.decreases),
  near_below c.args.frame c.inside-inside.result c.on_page-rect.result c.args.fragment.now c.deref.result.now c.deref-2.result.now c.requires.near
      c.on_page-rect.ensures c.inside-inside.ensures c.deref.ensures c.deref-2.ensures.value,
)

pub placed_parts-placed_part-requires : goal.placed_parts-placed_part-requires
placed_parts-placed_part-requires t c = (
  omega (arith, fewer_at c.args.fragments.now c.loop-fragment.fragment-index c.fragment-item.result c.loop-fragment-test.true c.fragment-item.is, c.decreases),
  near_at c.args.frame c.args.fragments.now c.loop-fragment.fragment-index c.fragment-item.result c.loop-fragment-test.true c.fragment-item.is c.requires.near,
)
