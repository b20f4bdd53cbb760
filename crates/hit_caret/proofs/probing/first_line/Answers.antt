use Rattle.std.proofs.Common.{arith}
use Rattle.std.specs.Prelude.{None, Some}
use Rattle.std.proofs.lemmas.Str.Pattern.{split_once_first}
use Rattle.hit_caret.proofs.Lines.{no_line_after, whole_line}
use Rattle.hit_caret.proofs.probing.first_line.Goals as goal

pub returns-in-Some-clause-line : goal.returns-in-Some-clause-line
returns-in-Some-clause-line c = (split_once_first 10 c.args.text.now (Some c.in-Some.parts) c.in-Some.ensures.cases (omega arith)).1

pub returns-in-Some-clause-after : goal.returns-in-Some-clause-after
returns-in-Some-clause-after c = (split_once_first 10 c.args.text.now (Some c.in-Some.parts) c.in-Some.ensures.cases (omega arith)).2

pub returns-in-None-clause-line : goal.returns-in-None-clause-line
returns-in-None-clause-line c = whole_line c.args.text.now (split_once_first 10 c.args.text.now None c.in-None.ensures.cases (omega arith))

pub returns-in-None-clause-after : goal.returns-in-None-clause-after
returns-in-None-clause-after c = no_line_after c.args.text.now (split_once_first 10 c.args.text.now None c.in-None.ensures.cases (omega arith))
