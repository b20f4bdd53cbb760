use Rattle.std.proofs.Common.{rules, ◌≡◌, ◌<◌, ◌+◌, length, map, suc, arith}
use Rattle.std.proofs.lemmas.List.{length-map}
use Rattle.para_prepare.specs.Reach.{code_kind}
use Rattle.para_prepare.proofs.Ends.{closes_fits, closes_more, kinds_drop}
use Rattle.para_prepare.proofs.boxes.mark_closings.Goals as goal

-- the next part is there
pub reach-before-requires : goal.reach-before-requires
reach-before-requires c =
    let within : c.loop-part.part-index < length c.args.parts.now = search rules in
    let many : length (map code_kind c.args.parts.now) ≡ length c.args.parts.now = length-map c.args.parts.now code_kind in
    closes_fits c.loop-part.marks.items c.loop-part.before c.loop-part.part-index (map code_kind c.args.parts.now) c.loop-part.invariant (omega arith) (search rules)

pub loop-part-preserved : goal.loop-part-preserved
loop-part-preserved c =
    let within : c.loop-part.part-index < length c.args.parts.now = search rules in
    let there = kinds_drop c.args.parts.now c.loop-part.part-index c.part-item.result within c.part-item.is in
    let next : c.loop-part.part-index + 1 ≡ suc c.loop-part.part-index = omega arith in
    rw next (rw c.in_ok-push.ensures.items (rw c.reach-before.ensures (rw c.flipped.ensures (rw c.closing_takes.ensures (rw c.kind-kind.ensures
    (closes_more c.loop-part.part-index (map code_kind c.args.parts.now) (code_kind c.part-item.result) _ c.loop-part.marks.items c.loop-part.before there c.loop-part.invariant))))))
