use Rattle.std.proofs.Common.{◌+◌, drop}
use Rattle.bidi_resolve.proofs.Passes.{set_kept}
use Rattle.bidi_resolve.specs.Weak.{w4_class, next_to}
use Rattle.wm_chars.specs.declared.classes.BidiClass.TheVariants.{L}
use Rattle.bidi_resolve.proofs.weak.w4_at.Goals as goal

pub returns-else-is_separator : goal.returns-else-is_separator
returns-else-is_separator c = λ d.
    set_kept (λ x. w4_class c.args.before x (next_to (drop (c.args.place + 1) c.args.classes.now))) c.args.classes.now c.args.place d L c.requires (c.is_separator.ensures c.if-is_separator.false _ _)
