use Rattle.std.proofs.Common.{arith}
use Rattle.std.specs.Prelude.{Some, None}
use Rattle.std.specs.String.{string_bytes}
use Rattle.std.proofs.lemmas.Result.{err_from_is_err_and}
use Rattle.std.proofs.lemmas.Str.Pattern.{split_once_first}
use Rattle.edit_script.proofs.Bringing.{letters_read, letters_refused, tag_refused}
use Rattle.edit_script.proofs.meaning.letters.Goals as goal

pub returns-in_err-whole_gap-in-Some : goal.returns-in_err-whole_gap-in-Some
returns-in_err-whole_gap-in-Some c =
    let p = err_from_is_err_and c.from_residual.result c.from_residual.ensures.1 in
    let s = split_once_first 60 c.args.text.now (Some (c.in-Some.before, c.in-Some.field-0-1)) c.in-Some.ensures.cases (omega arith) in
    rw (p.1, p.2) (letters_refused c.in_err-whole_gap-in-Some.field-0.0 c.args.text.now c.in-Some.before.now s.1 c.in_err-whole_gap-in-Some.ensures)

pub returns-in-None : goal.returns-in-None
returns-in-None c =
    letters_read (λ l. string_bytes l) c.whole_gap.result c.args.text.now (split_once_first 60 c.args.text.now None c.in-None.ensures.cases (omega arith)) c.whole_gap.ensures

pub returns-in_ok-whole_gap-in-Some : goal.returns-in_ok-whole_gap-in-Some
returns-in_ok-whole_gap-in-Some c =
    let s = split_once_first 60 c.args.text.now (Some (c.in-Some.before, c.in-Some.field-0-1)) c.in-Some.ensures.cases (omega arith) in
    tag_refused c.args.text.now c.in-Some.before.now (string_bytes c.in_ok-whole_gap-in-Some.field-0) s.0 s.1 c.in_ok-whole_gap-in-Some.ensures
