use Rattle.std.proofs.Common.{arith}
use Rattle.place_map.proofs.PartLists.{fewer_at, fewer_inside, near_at, near_inside}
use Rattle.page_window.proofs.Trees.{all_looked_at, part_away}
use Rattle.page_window.proofs.windowing.+window.Goals as goal

pub window_part-window_parts-requires : goal.window_part-window_parts-requires
window_part-window_parts-requires t c = (
  omega (arith, fewer_inside c.args.part.now c.children.result.now c.children.ensures, c.decreases),
  (c.requires.rect, near_inside c.args.part.now c.children.result.now c.children.ensures c.requires.near),
)

pub window_parts-window_part-requires : goal.window_parts-window_part-requires
window_parts-window_part-requires t c = (
  omega (arith, fewer_at c.args.parts.now c.loop-part.part-index c.part-item.result c.loop-part-test.true c.part-item.is, c.decreases),
  (c.requires.rect, near_at c.args.parts.now c.loop-part.part-index c.part-item.result c.loop-part-test.true c.part-item.is c.requires.near),
)

pub window_parts-returns : goal.window_parts-returns
window_parts-returns t c = all_looked_at c.args.rect.now c.args.parts.now c.loop-part.part-index c.loop-part.made.items _ c.loop-part-test.false c.loop-part.invariant

pub window_part-returns-else-reaches : goal.window_part-returns-else-reaches
window_part-returns-else-reaches t c = part_away c.args.rect.now c.args.part.now c.bound.result.now (c.reaches.ensures c.if-reaches.false) c.bound.ensures
