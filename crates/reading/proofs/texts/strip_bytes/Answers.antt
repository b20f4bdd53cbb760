use Rattle.reading.proofs.Stepping.{strip_goes_on, strip_differs, strip_ends, strip_is_done}
use Rattle.reading.proofs.texts.strip_bytes.Goals as goal

pub returns-in_default : goal.returns-in_default
returns-in_default c = strip_ends c.args.word.now c.args.bytes.now c.loop-wanted.rest.now c.loop-wanted.wanted-index c.loop-wanted-test.true c.in_default.ensures c.loop-wanted.invariant

pub returns-then-byte-wanted : goal.returns-then-byte-wanted
returns-then-byte-wanted c = strip_differs c.args.word.now c.args.bytes.now c.loop-wanted.rest.now c.in-Some.after.now c.loop-wanted.wanted-index c.in-Some.byte c.loop-wanted-test.true c.in-Some.ensures c.if-byte-wanted.true c.loop-wanted.invariant

pub loop-wanted-preserved : goal.loop-wanted-preserved
loop-wanted-preserved c = strip_goes_on c.args.word.now c.args.bytes.now c.loop-wanted.rest.now c.in-Some.after.now c.loop-wanted.wanted-index c.in-Some.byte c.loop-wanted-test.true c.in-Some.ensures c.if-byte-wanted.false c.loop-wanted.invariant

pub returns : goal.returns
returns c = strip_is_done c.args.word.now c.args.bytes.now c.loop-wanted.rest.now c.loop-wanted.wanted-index c.loop-wanted-test.false c.loop-wanted.invariant
