use Rattle.std.proofs.Common.{rules, arith, inr, sym, ◌∙◌}
use Rattle.std.proofs.lemmas.Result.{err_from_is_err_and}
use Rattle.html_tokens.proofs.Letters.{letters_stop, letters_go_on, letters_shorten}
use Rattle.html_tokens.proofs.PlainRuns.{runs_on}
use Rattle.html_tokens.proofs.text.characters_end.Goals as goal

pub returns-in_err-letter-clause-read : goal.returns-in_err-letter-clause-read
returns-in_err-letter-clause-read c =
    let p = err_from_is_err_and c.from_residual.result c.from_residual.ensures.1 in
    rw (p.1, p.2) (letters_stop c.args.text.now c.loop-rest.rest.now c.in_err-letter.field-0.0 c.loop-rest.invariant.1 (sym c.letter_ahead.ensures ∙ c.loop-rest-test.true) c.in_err-letter.ensures)

pub loop-rest-preserved : goal.loop-rest-preserved
loop-rest-preserved c =
    let next = sym c.letter_ahead.ensures ∙ c.loop-rest-test.true in (
      search rules,
      runs_on c.args.text.now _ _ (letters_go_on c.args.text.now c.loop-rest.rest.now _ c.loop-rest.invariant.1 next c.in_ok-letter.ensures) c.plain_end-rest.ensures.run,
      inr (omega (arith, letters_shorten c.args.text.now c.loop-rest.rest.now _ c.loop-rest.invariant.2 c.in_ok-letter.ensures, c.plain_end-rest.ensures.shorter)),
    )
