use Rattle.std.proofs.Common.{arith}
use Rattle.std.specs.Prelude.{codes}
use Rattle.reading.proofs.Shorter.{strip_strict}
use Rattle.html_tokens.proofs.lexing.tag_end.Goals as goal

pub returns-then-starts-clause-shorter : goal.returns-then-starts-clause-shorter
returns-then-starts-clause-shorter c = strip_strict (codes "/>") c.args.text.now c.strip.result (omega arith) c.strip.ensures.read

pub returns-else-slash-clause-shorter : goal.returns-else-slash-clause-shorter
returns-else-slash-clause-shorter c = strip_strict (codes ">") c.args.text.now c.strip-else-slash.result (omega arith) c.strip-else-slash.ensures.read
