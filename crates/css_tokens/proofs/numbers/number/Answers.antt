use Rattle.std.proofs.Common.{◌∙◌, rules}
use Rattle.std.proofs.lemmas.Int.{to_z-of_z}
use mir.Syntax.{w64}
use Rattle.css_tokens.proofs.Counting.{number_by, number_strict}
use Rattle.css_tokens.proofs.numbers.number.Goals as goal

pub returns-clause-read : goal.returns-clause-read
returns-clause-read c =
    number_by c.args.text.now c.sign-negative.result.1.now c.whole-whole.result.1.now c.decimals-decimals.result.1.now c.sign-negative.result.0 c.whole-whole.result.0 c.decimals-decimals.result.0 c.hundredths_of.result _
    c.sign-negative.ensures.read c.whole-whole.ensures.read c.decimals-decimals.ensures.read c.hundredths_of.ensures.read (to_z-of_z w64 c.signed.result (search rules) ∙ c.signed.ensures)

pub returns-clause-ahead : goal.returns-clause-ahead
returns-clause-ahead c =
    number_strict c.args.text.now c.sign-negative.result.1.now c.whole-whole.result.1.now c.decimals-decimals.result.1.now c.sign-negative.result.0 c.whole-whole.result.0 c.decimals-decimals.result.0
    c.sign-negative.ensures.read c.whole-whole.ensures.read c.decimals-decimals.ensures.read c.sign-negative.ensures.shorter c.whole-whole.ensures.shorter c.decimals-decimals.ensures.shorter
