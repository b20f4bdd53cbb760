use Rattle.std.proofs.Common.{rules, arith, ◌∙◌, ap, min, ◌+◌, ◌*◌, ℕ}
use Rattle.css_tokens.proofs.Counting.{counting_starts, counting_goes_on, counting_ends}
use Rattle.css_tokens.proofs.numbers.whole.Goals as goal

pub loop-byte-init : goal.loop-byte-init
loop-byte-init c = (c.utf8.text, counting_starts c.args.text.now, omega arith, omega arith)

pub loop-byte-preserved : goal.loop-byte-preserved
loop-byte-preserved c = (
  search rules,
  counting_goes_on c.args.text.now c.loop-byte.rest.now c.in-Ok.after.now c.loop-byte.value c.min-value.result c.in-Ok.byte c.loop-byte.invariant.1 c.in-Ok.ensures.read
      (c.min-value.ensures ∙ ap (λ (d : ℕ). min 10000000 (10 * c.loop-byte.value + d)) c.from.ensures),
  omega (arith, c.min-value.ensures),
  omega (arith, c.in-Ok.ensures.shorter, c.loop-byte.invariant.3),
)

pub returns-clause-read : goal.returns-clause-read
returns-clause-read c = counting_ends c.args.text.now c.loop-byte.rest.now c.in_default.field-0.now c.loop-byte.value c.loop-byte.invariant.1 c.in_default.ensures.read
