use Rattle.std.proofs.Common.{rules, arith}
use Rattle.std.specs.Char.{is_ascii_digit}
use Rattle.reading.proofs.Running.{running_starts}
use Rattle.css_tokens.proofs.Counting.{running_on, running_over}
use Rattle.css_tokens.proofs.numbers.behind_digits.Goals as goal

pub loop-after-init : goal.loop-after-init
loop-after-init c = (c.utf8.text, running_starts is_ascii_digit c.args.text.now, omega arith)

pub loop-after-preserved : goal.loop-after-preserved
loop-after-preserved c = (
  search rules,
  running_on c.args.text.now c.loop-after.rest.now c.in-Ok.after.now c.in-Ok.field-0-0 c.loop-after.invariant.1 c.in-Ok.ensures.read,
  omega (arith, c.in-Ok.ensures.shorter, c.loop-after.invariant.2),
)

pub returns-clause-read : goal.returns-clause-read
returns-clause-read c = running_over c.args.text.now c.loop-after.rest.now c.in_default.field-0.now c.loop-after.invariant.1 c.in_default.ensures.read
