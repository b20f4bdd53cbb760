use Rattle.std.proofs.lemmas.Result.{err_from_is_err_and}
use Rattle.std.specs.String.{string_bytes}
use Rattle.html_tokens.specs.Text.{in_text, text_piece}
use Rattle.html_tokens.proofs.Joining.{puts_run}
use Rattle.html_tokens.proofs.text.characters.Goals as goal

pub returns-in_err-rest-clause-read : goal.returns-in_err-rest-clause-read
returns-in_err-rest-clause-read c =
    let p = err_from_is_err_and c.from_residual.result c.from_residual.ensures.1 in
    rw (p.1, p.2) (λ total now. c.in_err-rest.ensures.read total (string_bytes c.args.letters.now) now)

pub returns-clause-read : goal.returns-clause-read
returns-clause-read c =
    puts_run in_text text_piece (string_bytes c.args.letters.now) (string_bytes c.push_str.new.self) c.args.text.now c.front_of.result.now c.in_ok-rest.rest.now c.in_ok-rest.ensures.read c.front_of.ensures
    c.in_ok-push_str.ensures.bytes
