use Rattle.std.proofs.Common.{arith}
use Rattle.std.specs.Prelude.{codes}
use Rattle.reading.proofs.Shorter.{strip_shortens}
use Rattle.css_tokens.proofs.names.hash.Goals as goal

pub returns-clause-shorter : goal.returns-clause-shorter
returns-clause-shorter c = omega (arith, c.name.ensures.shorter, strip_shortens (codes "#") c.args.text.now c.in_ok-strip.field-0.now c.in_ok-strip.ensures.read)
