use Rattle.std.proofs.Common.{◌∙◌, sym}
use Rattle.wm_chars.proofs.Classed.{ideograph_class, printable_class}
use Rattle.wm_chars.specs.declared.classes.BidiClass.TheVariants.{L}
use Rattle.wm_chars.proofs.repertoire.bidi_class.Goals as goal

pub returns-then-c-le126 : goal.returns-then-c-le126
returns-then-c-le126 c = printable_class c.args.c L c.if-c-ge32.true c.if-c-le126.true

pub returns-then-is_ideograph : goal.returns-then-is_ideograph
returns-then-is_ideograph c = ideograph_class c.args.c (sym c.is_ideograph.ensures ∙ c.if-is_ideograph.true)
