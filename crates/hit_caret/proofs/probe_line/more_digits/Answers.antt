use Rattle.std.proofs.Common.{◌+◌, ◌<◌, arith}
use Rattle.reading.specs.Decimals.{more_digits}
use Rattle.reading.proofs.Stepping.{digits_are_done, digits_go_on, digits_stop, one_more, wider}
use Rattle.reading.proofs.TextCuts.{text_behind_digit}
use Rattle.hit_caret.proofs.probe_line.more_digits.Goals as goal

pub overflow_mul-value : goal.overflow_mul-value
overflow_mul-value c =
    let room = wider c.loop.value (c.loop.counter + 1) 9 c.loop.invariant.few (omega arith) in
    omega arith

pub overflow_add-value : goal.overflow_add-value
overflow_add-value c =
    let room = wider c.loop.value (c.loop.counter + 1) 9 c.loop.invariant.few (omega arith) in
    let digit : c.from.result < 10 = omega (arith, c.in-Ok.ensures.digit) in
    omega arith

pub loop-preserved : goal.loop-preserved
loop-preserved c =
    let digit : c.from.result < 10 = omega (arith, c.in-Ok.ensures.digit) in
    record {
      same = rw c.from.ensures (digits_go_on 9 c.loop.counter c.loop.value c.in-Ok.byte c.loop.rest.now c.in-Ok.after.now (more_digits 9 c.args.first c.args.text.now)
          c.loop-test.true c.in-Ok.ensures.read c.loop.invariant.same);
      few = one_more c.loop.value c.from.result (c.loop.counter + 1) c.loop.invariant.few digit;
      utf8 = text_behind_digit c.loop.rest.now c.in-Ok.after.now c.in-Ok.byte c.loop.invariant.utf8 c.in-Ok.ensures.read c.in-Ok.ensures.digit.1;
    }

pub returns-in-Err-clause-read : goal.returns-in-Err-clause-read
returns-in-Err-clause-read c =
    digits_stop 9 c.loop.counter c.loop.value c.loop.rest.now c.in-Err.field-0.now (more_digits 9 c.args.first c.args.text.now) c.in-Err.ensures.read c.loop.invariant.same

pub returns-in-Err-clause-below : goal.returns-in-Err-clause-below
returns-in-Err-clause-below c = wider c.loop.value (c.loop.counter + 1) 10 c.loop.invariant.few (omega arith)

pub returns-clause-read : goal.returns-clause-read
returns-clause-read c = digits_are_done 9 c.loop.counter c.loop.value c.loop.rest.now (more_digits 9 c.args.first c.args.text.now) c.loop-test.false c.loop.invariant.same
