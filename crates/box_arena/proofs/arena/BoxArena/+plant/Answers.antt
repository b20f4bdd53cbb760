use Rattle.std.proofs.Common.{◌≡◌, ◌∙◌, ◌+◌, suc, List, ap, arith, subst}
use Rattle.std.proofs.lemmas.List.{nil_from_length}
use Rattle.box_gen.specs.declared.tree.BoxTree.{BoxTree, out-BoxTree}
use Rattle.box_gen.specs.Tree.{all_boxes_of, boxes_of, count}
use Rattle.box_arena.specs.At.{node_of}
use Rattle.box_arena.proofs.Planted.{IsUnderWay, begun, count_all, fewer, finished, not_above, one_on, opened}
use Rattle.box_arena.proofs.arena.BoxArena.+plant.Goals as goal

pub loop-child-init : goal.loop-child-init
loop-child-init g t c =
    let all : c.into_iter-child-iterator.result.rest.items ≡ (out-BoxTree c.args.tree).children.items = c.into_iter-child-iterator.ensures.into_iter_gives.0 in
    rw (all)
    (begun c.args.self.now c.insert_reserved-key.new.self c.insert_reserved-key.result _ (out-BoxTree c.args.tree).children.items c.insert_reserved-key.ensures.linked c.insert_reserved-key.ensures.inserts)

pub plant-inside-requires : goal.plant-inside-requires
plant-inside-requires g t c κs within =
    let P : List BoxTree → Type 0 = λ rest. IsUnderWay c.args.self.now c.loop-child.self c.insert_reserved-key.result (node_of (out-BoxTree c.args.tree).node) (all_boxes_of (out-BoxTree c.args.tree).children.items) rest in
    let way = subst P c.in-Some.ensures.steps.0 c.loop-child.invariant in
    let size : count (boxes_of c.args.tree) ≡ suc (count (all_boxes_of (out-BoxTree c.args.tree).children.items) + 0) = ap count (opened c.args.tree) in
    let less = fewer c.args.self.now c.loop-child.self c.insert_reserved-key.result _ _ c.in-Some.child c.next.new.self.rest.items way in
    let room = way.room 0 (omega (arith, c.requires, size)) in
    (omega (arith, less, size, c.decreases), (within, omega (arith, room, count_all c.in-Some.child c.next.new.self.rest.items)))

pub attach-requires-clause-parent : goal.attach-requires-clause-parent
attach-requires-clause-parent g t c = c.plant-inside.ensures.live _ c.loop-child.invariant.alive

pub attach-requires-clause-apart : goal.attach-requires-clause-apart
attach-requires-clause-apart g t c =
    let way = c.loop-child.invariant in
    let apart = (c.plant-inside.ensures.left c.insert_reserved-key.result way.alive).parent ∙ way.apart in
    not_above c.loop-child.self c.plant-inside.new.self c.insert_reserved-key.result c.plant-inside.result way.alive c.plant-inside.ensures.free apart

pub loop-child-preserved : goal.loop-child-preserved
loop-child-preserved g t c =
    let P : List BoxTree → Type 0 = λ rest. IsUnderWay c.args.self.now c.loop-child.self c.insert_reserved-key.result (node_of (out-BoxTree c.args.tree).node) (all_boxes_of (out-BoxTree c.args.tree).children.items) rest in
    one_on c.args.self.now c.loop-child.self c.plant-inside.new.self c.attach.new.self c.insert_reserved-key.result c.plant-inside.result _ _ c.in-Some.child c.next.new.self.rest.items
    (subst P c.in-Some.ensures.steps.0 c.loop-child.invariant) c.plant-inside.ensures c.attach.ensures.attaches c.attach.ensures.linked.0 c.attach.ensures.linked.1

pub returns : goal.returns
returns g t c =
    let P : List BoxTree → Type 0 = λ rest. IsUnderWay c.args.self.now c.loop-child.self c.insert_reserved-key.result (node_of (out-BoxTree c.args.tree).node) (all_boxes_of (out-BoxTree c.args.tree).children.items) rest in
    let none = nil_from_length c.loop-child.child-iterator.rest.items (omega (arith, c.in-None.ensures.steps.0, c.loop-child.child-iterator.rest.ok.0)) in
    finished c.args.self.now c.loop-child.self c.insert_reserved-key.result _ _ (boxes_of c.args.tree) (subst P none c.loop-child.invariant) (opened c.args.tree)
