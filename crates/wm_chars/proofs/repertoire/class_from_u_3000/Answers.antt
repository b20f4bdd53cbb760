use Rattle.std.proofs.Common.{sym}
use Rattle.wm_chars.proofs.Classed.{bracket_class, comma_class}
use Rattle.wm_chars.proofs.repertoire.class_from_u_3000.Goals as goal

pub returns-then-c-le12290 : goal.returns-then-c-le12290
returns-then-c-le12290 c = sym (comma_class c.args.c c.if-c-ge12289.true c.if-c-le12290.true)

pub returns-then-c-le12305 : goal.returns-then-c-le12305
returns-then-c-le12305 c = sym (bracket_class c.args.c c.if-c-ge12296.true c.if-c-le12305.true)
