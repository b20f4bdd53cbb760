use Rattle.std.proofs.lemmas.List.{drop_all, drop_more}
use Rattle.para_prepare.proofs.InsideLaws.{reads_all, reads_on}
use Rattle.para_prepare.proofs.inside.text_in.Goals as goal

pub loop-i-preserved : goal.loop-i-preserved
loop-i-preserved c =
    reads_on c.loop-i.text.items _ _ c.args.cut.upright c.args.cut.letters.now c.loop-i.at _ _ c.args.cut.units.now _ c.loop-i.invariant
    (drop_more c.args.cut.units.now c.loop-i.i _ c.loop-i-test.true) c.in_ok-put_controls.ensures c.in_ok-put_unit.ensures

pub returns-clause-count : goal.returns-clause-count
returns-clause-count c =
    reads_all c.loop-i.text.items _ c.args.cut.upright c.args.cut.letters.now _ c.loop-i.at _ c.args.cut.units.now c.loop-i.invariant
    (drop_all c.loop-i.i c.args.cut.units.now c.loop-i-test.false) c.in_ok-put_controls-2.ensures
