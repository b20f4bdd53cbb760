use Rattle.std.proofs.Common.{arith}
use Rattle.std.specs.Prelude.{None}
use Rattle.std.proofs.lemmas.Str.Pattern.{strip_suffix_char}
use Rattle.hit_caret.proofs.Lines.{no_cr}
use Rattle.hit_caret.proofs.probing.without_cr.Goals as goal

pub returns-in-None : goal.returns-in-None
returns-in-None c = no_cr c.args.line.now (strip_suffix_char 13 c.args.line.now None c.in-None.ensures.cases (omega arith))
