use Rattle.std.proofs.Common.{◌∙◌, ◌+◌, ◌≤◌, arith, length, sym}
use Rattle.dom_store.proofs.DropLaws.{block_passed, whole_position}
use Rattle.dom_store.proofs.siblings.start_of.Goals as goal

pub loop-start-init : goal.loop-start-init
loop-start-init c = record { within = omega arith; passed = whole_position c.args.number c.args.numbers.now }

pub loop-start-preserved : goal.loop-start-preserved
loop-start-preserved c =
    let more = c.loop-start-test.true in
    let before = c.loop-start.invariant.within in
    let within : c.loop-start.start + 64 ≤ length c.args.numbers.now = omega (arith, more, before) in
    record {
      within = within;
      passed = c.loop-start.invariant.passed ∙ block_passed c.args.number c.loop-start.start 64 c.args.numbers.now within (sym c.has.ensures ∙ c.if-has.false);
    }
