use Rattle.std.proofs.Common.{sym, ◌∙◌}
use Rattle.html_tokens.proofs.Letters.{letter_ok, letter_err}
use Rattle.html_tokens.proofs.text.letter.Goals as goal

pub returns-then-in_repertoire : goal.returns-then-in_repertoire
returns-then-in_repertoire c =
    letter_ok c.args.text.now c.in-Some.rest.now c.in-Some.c c.requires c.in-Some.ensures.0 c.in-Some.ensures.1 (sym c.in_repertoire.ensures ∙ c.if-in_repertoire.true)

pub returns-else-in_repertoire : goal.returns-else-in_repertoire
returns-else-in_repertoire c =
    letter_err c.args.text.now c.in-Some.rest.now c.as_bytes-else-in_repertoire.result.now c.in-Some.c c.requires c.in-Some.ensures.0 c.in-Some.ensures.1
    (sym c.in_repertoire.ensures ∙ c.if-in_repertoire.false) c.as_bytes-else-in_repertoire.ensures.value
