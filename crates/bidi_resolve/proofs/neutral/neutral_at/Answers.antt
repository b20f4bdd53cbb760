use Rattle.std.proofs.Common.{rules, ◌+◌, drop}
use Rattle.bidi_resolve.proofs.Passes.{set_kept}
use Rattle.bidi_resolve.proofs.NeutralLaws.{other_stays}
use Rattle.bidi_resolve.specs.Neutral.{n1_class, n2_class, side}
use Rattle.wm_chars.specs.declared.classes.BidiClass.TheVariants.{L}
use Rattle.bidi_resolve.proofs.neutral.neutral_at.Goals as goal

pub returns-then-not-is_neutral-clause-class : goal.returns-then-not-is_neutral-clause-class
returns-then-not-is_neutral-clause-class c = λ d.
    set_kept (λ x. n2_class c.args.frame.level (n1_class c.args.seen.before x (side c.args.frame.eos (drop (c.args.place + 1) c.args.classes.now)))) c.args.classes.now c.args.place d L c.requires.within
    (other_stays c.args.frame.level c.args.seen.before _ _ (search rules))
