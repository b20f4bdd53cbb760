use Rattle.std.proofs.Common.{rules, ◌∙◌, sym}
use Rattle.bidi_resolve.specs.Neutral.{side}
use Rattle.bidi_resolve.proofs.Seeing.{sees_more, sees_end}
use Rattle.wm_chars.specs.declared.classes.BidiClass.TheVariants.{L}
use Rattle.bidi_resolve.proofs.neutral.side.Goals as goal

pub loop-until-preserved : goal.loop-until-preserved
loop-until-preserved c =
    sees_more (side c.args.eos) c.args.classes.now c.args.place c.loop-until.until L c.loop-until-test.true (c.has_direction.ensures.no (search rules) _) c.loop-until.invariant

pub returns-then-has_direction-clause-sees : goal.returns-then-has_direction-clause-sees
returns-then-has_direction-clause-sees c =
    sees_end (side c.args.eos) c.args.classes.now c.args.place c.loop-until.until L _ c.loop-until-test.true (c.has_direction.ensures.yes (search rules) _ _ ∙ sym c.n1_after.ensures) c.loop-until.invariant
