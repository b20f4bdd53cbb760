use Rattle.std.proofs.Common.{rules}
use Rattle.bidi_resolve.specs.Weak.{beside}
use Rattle.bidi_resolve.proofs.Seeing.{sees_more}
use Rattle.wm_chars.specs.declared.classes.BidiClass.TheVariants.{L}
use Rattle.bidi_resolve.proofs.weak.beside.Goals as goal

pub loop-until-preserved : goal.loop-until-preserved
loop-until-preserved c =
    sees_more beside c.args.classes.now c.args.place c.loop-until.until L c.loop-until-test.true (c.is_passed_over.ensures.yes (search rules) _) c.loop-until.invariant
