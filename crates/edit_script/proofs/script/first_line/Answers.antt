use Rattle.std.proofs.Common.{arith}
use Rattle.std.specs.Prelude.{Some, None}
use Rattle.std.proofs.lemmas.Str.Pattern.{split_once_first}
use Rattle.edit_script.proofs.Lines.{line_ends, line_found}
use Rattle.edit_script.proofs.script.first_line.Goals as goal

pub returns-in-Some : goal.returns-in-Some
returns-in-Some c =
    let s = split_once_first 10 c.args.text.now (Some c.in-Some.parts) c.in-Some.ensures.cases (omega arith) in
    line_found c.args.text.now c.in-Some.parts.0.now c.in-Some.parts.1.now s.0 s.1 s.2

pub returns-in-None : goal.returns-in-None
returns-in-None c = line_ends c.args.text.now (split_once_first 10 c.args.text.now None c.in-None.ensures.cases (omega arith))
