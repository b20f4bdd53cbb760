use Rattle.std.proofs.Common.{sym, ◌∙◌}
use Rattle.reading.proofs.Stepping.{cased_goes_on, cased_differs, cased_ends, cased_is_done}
use Rattle.reading.proofs.texts.strip_cased_bytes.Goals as goal

pub returns-in_default : goal.returns-in_default
returns-in_default c = cased_ends c.args.word.now c.args.bytes.now c.loop-wanted.rest.now c.loop-wanted.wanted-index c.loop-wanted-test.true c.in_default.ensures c.loop-wanted.invariant

pub returns-then-to_ascii_lowercase-wanted : goal.returns-then-to_ascii_lowercase-wanted
returns-then-to_ascii_lowercase-wanted c = cased_differs c.args.word.now c.args.bytes.now c.loop-wanted.rest.now c.in-Some.after.now c.loop-wanted.wanted-index c.in-Some.byte c.loop-wanted-test.true c.in-Some.ensures (λ same. c.if-to_ascii_lowercase-wanted.true (c.to_ascii_lowercase.ensures.value ∙ same)) c.loop-wanted.invariant

pub loop-wanted-preserved : goal.loop-wanted-preserved
loop-wanted-preserved c = cased_goes_on c.args.word.now c.args.bytes.now c.loop-wanted.rest.now c.in-Some.after.now c.loop-wanted.wanted-index c.in-Some.byte c.loop-wanted-test.true c.in-Some.ensures (sym c.to_ascii_lowercase.ensures.value ∙ c.if-to_ascii_lowercase-wanted.false) c.loop-wanted.invariant

pub returns : goal.returns
returns c = cased_is_done c.args.word.now c.args.bytes.now c.loop-wanted.rest.now c.loop-wanted.wanted-index c.loop-wanted-test.false c.loop-wanted.invariant
