use Rattle.std.proofs.Common.{arith, ◌+◌, ◌*◌}
use Rattle.css_tokens.proofs.Counting.{no_decimal, one_decimal, two_decimals}
use Rattle.css_tokens.proofs.numbers.fraction.Goals as goal

pub returns-in_default-clause-read : goal.returns-in_default-clause-read
returns-in_default-clause-read c = no_decimal c.args.text.now c.in_default.field-0.now c.in_default.ensures.read

pub returns-in_default-digit-clause-read : goal.returns-in_default-digit-clause-read
returns-in_default-digit-clause-read c =
    one_decimal c.args.text.now c.in-Ok.rest.now c.in_default-digit.field-0.now c.in-Ok.tenths (10 * c.from-tenths.result) c.in-Ok.ensures.read c.in_default-digit.ensures.read (omega arith)

pub returns-clause-read : goal.returns-clause-read
returns-clause-read c =
    two_decimals c.args.text.now c.in-Ok.rest.now c.in-Ok-digit.rest.now c.behind_digits.result.now c.in-Ok.tenths c.in-Ok-digit.hundredths (10 * c.from-tenths.result + c.from.result) c.in-Ok.ensures.read
    c.in-Ok-digit.ensures.read c.behind_digits.ensures.read (omega arith)
