use Rattle.std.proofs.Common.{sym, ◌∙◌}
use Rattle.html_read.proofs.Heads.{style_put}
use Rattle.html_read.proofs.head.head_turn.Goals as goal

pub returns-in_ok-push-clause-read : goal.returns-in_ok-push-clause-read
returns-in_ok-push-clause-read c =
    style_put c.args.size c.args.sheets.now.items c.push.new.self.items c.args.text.now c.in_ok-sheet.rest.now c.in_ok-sheet.sheet (sym c.white_ahead.ensures ∙ c.if-white_ahead.false)
    (sym c.starts.ensures ∙ c.if-starts.false) (sym c.ahead.ensures ∙ c.if-ahead.false) (sym c.ahead-else-ahead.ensures ∙ c.if-ahead-2.false)
    (sym c.ahead-else-ahead-2.ensures ∙ c.if-ahead-3.true) c.in_ok-sheet.ensures.read c.in_ok-push.ensures.items
