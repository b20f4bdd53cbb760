use Rattle.wm_chars.proofs.Blocks.{divides_at, before_more}
use Rattle.wm_chars.proofs.repertoire.rows_before_from.Goals as goal

pub returns-then-c-i : goal.returns-then-c-i
returns-then-c-i c = divides_at c.args.c c.loop-i.i _ c.loop-i-test.true c.loop-i.invariant c.if-c-i.true

pub loop-i-preserved : goal.loop-i-preserved
loop-i-preserved c = before_more c.args.c c.loop-i.i _ c.loop-i-test.true c.loop-i.invariant c.if-c-i.false
