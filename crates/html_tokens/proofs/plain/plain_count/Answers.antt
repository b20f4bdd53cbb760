use Rattle.html_tokens.proofs.PlainRuns.{plain_both}
use Rattle.html_tokens.proofs.plain.plain_count.Goals as goal

pub returns-clause-plain : goal.returns-clause-plain
returns-clause-plain c = plain_both c.plain_blocks-start.result c.plain_in-2.result c.args.bytes.now c.plain_blocks-start.ensures.plain (rw (← c.split_at.ensures.back) c.plain_in-2.ensures.plain)
