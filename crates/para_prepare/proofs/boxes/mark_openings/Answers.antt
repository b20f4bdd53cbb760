use Rattle.std.proofs.Common.{rules, ◌≡◌, ◌<◌, ◌≤◌, length, map, suc, ◌-◌, arith}
use Rattle.std.proofs.lemmas.List.{length-map}
use Rattle.para_prepare.specs.Reach.{code_kind}
use Rattle.para_prepare.proofs.Ends.{opens_fits, opens_more, opens_start, kinds_drop}
use Rattle.para_prepare.proofs.boxes.mark_openings.Goals as goal

pub loop-k-init : goal.loop-k-init
loop-k-init c =
    let many : length (map code_kind c.args.parts.now) ≡ length c.args.parts.now = length-map c.args.parts.now code_kind in
    rw (← many) (opens_start c.args.marks.now (map code_kind c.args.parts.now) c.requires)

pub reach-after-requires : goal.reach-after-requires
reach-after-requires c =
    let many : length (map code_kind c.args.parts.now) ≡ length c.args.parts.now = length-map c.args.parts.now code_kind in
    opens_fits c.loop-k.marks c.loop-k.after c.loop-k.k (map code_kind c.args.parts.now) c.loop-k.invariant c.loop-k-test.true (rw many (search rules))

pub loop-k-preserved : goal.loop-k-preserved
loop-k-preserved c =
    let many : length (map code_kind c.args.parts.now) ≡ length c.args.parts.now = length-map c.args.parts.now code_kind in
    let low : c.loop-k.k ≤ length (map code_kind c.args.parts.now) = c.loop-k.invariant.within in
    let some : 0 < c.loop-k.k = c.loop-k-test.true in
    let there = kinds_drop c.args.parts.now (c.loop-k.k - 1) c.index-parts-k.result (omega arith) c.index-parts-k.is in
    let before : suc (c.loop-k.k - 1) ≡ c.loop-k.k = omega arith in
    rw c.reach-after.ensures (rw c.takes.ensures (rw c.kind-kind.ensures
    (opens_more (c.loop-k.k - 1) (map code_kind c.args.parts.now) (code_kind c.index-parts-k.result) _ c.loop-k.marks c.loop-k.after _ there (search rules) (rw before c.loop-k.invariant))))
