use Rattle.std.proofs.Common.{sym, ◌∙◌}
use Rattle.css_tokens.proofs.Counting.{no_point, point_alone, point_and_digit}
use Rattle.css_tokens.proofs.numbers.decimals.Goals as goal

pub returns-in_default-clause-read : goal.returns-in_default-clause-read
returns-in_default-clause-read c = no_point c.args.text.now c.in_default.field-0.now c.in_default.ensures.read

pub returns-then-digit_ahead-clause-read : goal.returns-then-digit_ahead-clause-read
returns-then-digit_ahead-clause-read c =
    point_and_digit c.args.text.now c.in-Ok.rest.now c.fraction.result.1.now c.fraction.result.0 c.in-Ok.ensures.read (sym c.digit_ahead.ensures ∙ c.if-digit_ahead.true) c.fraction.ensures.read

pub returns-else-digit_ahead-clause-read : goal.returns-else-digit_ahead-clause-read
returns-else-digit_ahead-clause-read c = point_alone c.args.text.now c.in-Ok.rest.now c.in-Ok.ensures.read (sym c.digit_ahead.ensures ∙ c.if-digit_ahead.false)
