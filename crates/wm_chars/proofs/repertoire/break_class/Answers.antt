use Rattle.std.proofs.Common.{◌∙◌, sym}
use Rattle.wm_chars.proofs.Classed.{ideograph_break, printable_break}
use Rattle.wm_chars.specs.declared.classes.BreakClass.TheVariants.{Space}
use Rattle.wm_chars.proofs.repertoire.break_class.Goals as goal

pub returns-then-c-le126 : goal.returns-then-c-le126
returns-then-c-le126 c = printable_break c.args.c Space c.if-c-ge32.true c.if-c-le126.true

pub returns-then-is_ideograph : goal.returns-then-is_ideograph
returns-then-is_ideograph c = ideograph_break c.args.c (sym c.is_ideograph.ensures ∙ c.if-is_ideograph.true)
