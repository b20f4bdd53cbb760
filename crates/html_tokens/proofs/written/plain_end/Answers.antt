use Rattle.std.proofs.Common.{sym, ◌∙◌}
use Rattle.html_tokens.proofs.Joining.{plain_goes_on_in}
use Rattle.html_tokens.proofs.written.plain_end.Goals as goal

pub loop-at-preserved : goal.loop-at-preserved
loop-at-preserved c =
    plain_goes_on_in c.args.quote c.args.text.now c.as_bytes.result.now c.loop-at.at c.as_bytes.ensures.value c.loop-at.invariant c.loop-at-test.true
    (sym c.is_plain.ensures ∙ c.if-not-is_plain.false)
