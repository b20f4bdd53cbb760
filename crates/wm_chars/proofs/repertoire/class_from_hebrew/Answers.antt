use Rattle.std.proofs.Common.{sym}
use Rattle.wm_chars.proofs.Classed.{arabic_class, further_arabic_class, hebrew_class}
use Rattle.wm_chars.proofs.repertoire.class_from_hebrew.Goals as goal

pub returns-then-c-le1514 : goal.returns-then-c-le1514
returns-then-c-le1514 c = sym (hebrew_class c.args.c c.if-c-ge1488.true c.if-c-le1514.true)

pub returns-then-c-le1594 : goal.returns-then-c-le1594
returns-then-c-le1594 c = sym (arabic_class c.args.c c.if-c-ge1569.true c.if-c-le1594.true)

pub returns-then-c-le1610 : goal.returns-then-c-le1610
returns-then-c-le1610 c = sym (further_arabic_class c.args.c c.if-c-ge1601.true c.if-c-le1610.true)
