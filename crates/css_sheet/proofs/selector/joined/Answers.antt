use Rattle.std.proofs.Common.{rules, arith}
use Rattle.std.proofs.lemmas.Result.{err_from_is_err_and}
use Rattle.css_sheet.specs.Halt.{begun_of}
use Rattle.css_sheet.proofs.Turning.{joining_starts, joining_goes_on, joining_stops, joining_ends, not_ended, now_ended}
use Rattle.css_sheet.proofs.selector.joined.Goals as goal

pub loop-alloc-init : goal.loop-alloc-init
loop-alloc-init c = (search rules, joining_starts (begun_of c.args.parts.items c.args.white) c.args.text.now, omega arith)

pub returns-in_err-is_white-clause-read : goal.returns-in_err-is_white-clause-read
returns-in_err-is_white-clause-read c =
    let p = err_from_is_err_and c.from_residual.result c.from_residual.ensures.1 in
    rw (p.1, p.2) (joining_stops (begun_of c.args.parts.items c.args.white) (begun_of c.loop-alloc.parts.items c.loop-alloc.white) c.args.text.now c.loop-alloc.rest.now c.in_err-is_white.field-0.0 c.loop-alloc.invariant.1
    (not_ended c.loop-alloc.rest.now c.selector_ends.result c.selector_ends.ensures c.loop-alloc-test.true) c.in_err-is_white.ensures.read)

pub loop-alloc-preserved : goal.loop-alloc-preserved
loop-alloc-preserved c = (
  search rules,
  joining_goes_on (begun_of c.args.parts.items c.args.white) (begun_of c.loop-alloc.parts.items c.loop-alloc.white) (begun_of c.turn.new.parts.items c.in_ok-is_white.is_white) c.args.text.now c.loop-alloc.rest.now c.in_ok-is_white.after.now
      c.loop-alloc.invariant.1 (not_ended c.loop-alloc.rest.now c.selector_ends.result c.selector_ends.ensures c.loop-alloc-test.true) c.in_ok-is_white.ensures.read c.in_ok-is_white.ensures.shorter,
  omega (arith, c.in_ok-is_white.ensures.shorter, c.loop-alloc.invariant.2),
)

pub returns-clause-read : goal.returns-clause-read
returns-clause-read c =
    joining_ends (begun_of c.args.parts.items c.args.white) (begun_of c.loop-alloc.parts.items c.loop-alloc.white) c.args.text.now c.loop-alloc.rest.now c.loop-alloc.invariant.1
    (now_ended c.loop-alloc.rest.now c.selector_ends.result c.selector_ends.ensures c.loop-alloc-test.false)
