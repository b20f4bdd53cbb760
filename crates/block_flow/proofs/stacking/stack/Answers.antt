use Rattle.std.proofs.Common.{◌≡◌, ◌∙◌, refl, arith, drop, to_z, of_z, w64, drop_of_length-le}
use Rattle.std.proofs.lemmas.Int.{ints}
use Rattle.basic_laws.proofs.Numbers.{number_held}
use Rattle.block_flow.proofs.Walk.{along_on, walk_ends}
use Rattle.block_flow.proofs.stacking.stack.Goals as goal

pub loop-child-preserved : goal.loop-child-preserved
loop-child-preserved g c =
    along_on _ _ c.loop-child.places.items _ _ _ _ _ c.place.result c.loop-child-test.true c.place.ensures.place c.after-reached.ensures.reached c.after-reached.ensures.through
    c.place.ensures.near c.after-reached.ensures.span c.after-reached.ensures.start c.requires c.in_ok-push.ensures.items c.loop-child.invariant

pub returns-clause-stack : goal.returns-clause-stack
returns-clause-stack g c = λ list are.
    let near = c.extent.ensures.near in
    let room = c.requires in
    let span = c.loop-child.invariant.span in
    let extent : to_z w64 (of_z w64 c.extent.result) ≡ c.extent.result = number_held c.extent.result (omega arith) in
    walk_ends c.args.parent list c.loop-child.places.items c.loop-child.reached (drop c.loop-child.child-index c.args.children.now) _
    (drop_of_length-le c.args.children.now c.loop-child-test.false) refl
    (λ progress at. extent ∙ c.extent.ensures.extent progress at)
    c.start.ensures c.handed.ensures.list c.is_through.ensures (c.loop-child.invariant.walks list are)

pub returns-clause-within : goal.returns-clause-within
returns-clause-within g c =
    let near = c.extent.ensures.near in
    let low = c.extent.ensures.low in
    let room = c.requires in
    let span = c.loop-child.invariant.span in
    let start = c.loop-child.invariant.start in
    let handed = c.handed.ensures.near in
    let extent : to_z w64 (of_z w64 c.extent.result) ≡ c.extent.result = number_held c.extent.result (omega arith) in
    record {
      places = c.loop-child.invariant.within;
      extent_low = rw extent c.extent.ensures.low;
      extent_high = rw extent (omega (arith, ints));
      start = rw c.start.ensures (omega arith);
      end_ = omega arith;
    }
