use Rattle.std.proofs.Common.{◌≡◌, ◌+◌, ◌-◌, arith}
use Rattle.line_place.proofs.RunLaws.{counted, goes_further, ends_there, is_last}
use Rattle.line_place.proofs.runs.run_length.Goals as goal

pub loop-length-preserved : goal.loop-length-preserved
loop-length-preserved g c =
    let e : c.loop-length.length + 1 - 1 ≡ c.loop-length.length = omega arith in
    let go = goes_further c.args.leaves.now c.loop-length.length _ c.loop-length.invariant.0 (omega arith) c.goes_on_at.ensures c.if-goes_on_at.true in
    (omega arith, omega arith, rw e (omega (arith, c.loop-length.invariant.2, go)))

pub returns-else-goes_on_at-clause-runs : goal.returns-else-goes_on_at-clause-runs
returns-else-goes_on_at-clause-runs g c =
    let last = ends_there c.args.leaves.now c.loop-length.length _ c.loop-length.invariant.0 (omega arith) c.goes_on_at.ensures c.if-goes_on_at.false in
    counted c.args.leaves.now c.loop-length.length (omega arith) (omega (arith, c.loop-length.invariant.2, last))

pub returns-after-loop-length-clause-runs : goal.returns-after-loop-length-clause-runs
returns-after-loop-length-clause-runs g c =
    let last = is_last c.args.leaves.now c.loop-length.length c.loop-length.invariant.0 (omega arith) in
    counted c.args.leaves.now c.loop-length.length (omega arith) (omega (arith, c.loop-length.invariant.2, last))
