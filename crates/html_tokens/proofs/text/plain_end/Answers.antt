use Rattle.html_tokens.proofs.PlainRuns.{plain_cut, plain_end}
use Rattle.html_tokens.proofs.text.plain_end.Goals as goal

pub split_at-requires : goal.split_at-requires
split_at-requires c = plain_cut c.args.text.now c.as_bytes.result.now c.plain_count.result c.utf8.text c.as_bytes.ensures.value c.plain_count.ensures.within c.plain_count.ensures.plain

pub returns-clause-run : goal.returns-clause-run
returns-clause-run c = plain_end c.args.text.now c.as_bytes.result.now _ c.plain_count.result c.as_bytes.ensures.value c.plain_count.ensures.within c.plain_count.ensures.plain c.split_at.ensures.back
