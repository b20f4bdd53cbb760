use Rattle.std.proofs.Common.{rules, ◌+◌, drop}
use Rattle.bidi_resolve.proofs.Passes.{set_kept}
use Rattle.bidi_resolve.specs.Weak.{w5_class, beside}
use Rattle.wm_chars.specs.declared.classes.BidiClass.TheVariants.{L}
use Rattle.bidi_resolve.proofs.weak.w5_at.Goals as goal

pub returns-then-not-is_passed_over-clause-class : goal.returns-then-not-is_passed_over-clause-class
returns-then-not-is_passed_over-clause-class c = λ d.
    set_kept (λ x. w5_class c.args.before x (beside (drop (c.args.place + 1) c.args.classes.now))) c.args.classes.now c.args.place d L c.requires.within (c.is_passed_over.ensures.stays (search rules) _ _)
