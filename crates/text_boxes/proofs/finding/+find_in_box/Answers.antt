-- One child after the other is gone through, each with all inside it.
use Rattle.std.proofs.Common.{◌≡◌, None, arith}
use Rattle.text_boxes.proofs.Walk.{way_begins, way_ends, way_on, way_tree}
use Rattle.text_boxes.proofs.finding.+find_in_box.Goals as goal

pub loop-init : goal.loop-init
loop-init g t c =
    way_begins c.args.arena.now.slots c.args.key c.args.node c.first-next.result c.find_at-found.result c.find_at-found.ensures.linked c.requires c.first-next.ensures c.find_at-found.ensures.found

pub returns-in_default : goal.returns-in_default
returns-in_default g t c =
    let ends : c.loop.next ≡ None = search (c.in_default) in
    way_ends c.args.arena.now.slots c.args.key c.args.node c.loop.next c.loop.found c.loop.invariant ends

pub find_in_box-inside-requires : goal.find_in_box-inside-requires
find_in_box-inside-requires g t c κs within =
    (omega (arith, c.decreases, c.if-depth-eq0.false), (within, way_tree c.args.arena.now.slots c.args.key c.args.node c.in-Some.child c.loop.next c.loop.found c.loop.invariant c.in-Some.is))

pub loop-preserved : goal.loop-preserved
loop-preserved g t c =
    way_on c.args.arena.now.slots c.args.key c.args.node c.in-Some.child c.loop.next c.next-next.result c.loop.found c.find_in_box-inside.result c.found_in_both-found.result
    c.find_at-found.ensures.linked c.loop.invariant c.in-Some.is c.next-next.ensures c.find_in_box-inside.ensures c.found_in_both-found.ensures
