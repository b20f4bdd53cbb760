use Rattle.std.proofs.Common.{sym}
use Rattle.wm_chars.proofs.Classed.{mark_class}
use Rattle.wm_chars.proofs.repertoire.class_before_hebrew.Goals as goal

pub returns-then-c-le879 : goal.returns-then-c-le879
returns-then-c-le879 c = sym (mark_class c.args.c c.if-c-ge768.true c.if-c-le879.true)
