use Rattle.css_tokens.proofs.Gapping.{comment_shorter}
use Rattle.css_tokens.proofs.gaps.comment.Goals as goal

pub returns-clause-shorter : goal.returns-clause-shorter
returns-clause-shorter c = comment_shorter c.args.text.now c.in_ok-strip.field-0.now c.behind_end.result c.in_ok-strip.ensures.read c.behind_end.ensures.shorter
