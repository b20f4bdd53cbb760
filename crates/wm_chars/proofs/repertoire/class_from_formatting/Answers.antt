use Rattle.wm_chars.proofs.Classed.{embedding_class, isolate_class}
use Rattle.wm_chars.specs.declared.classes.BidiClass.TheVariants.{L}
use Rattle.wm_chars.proofs.repertoire.class_from_formatting.Goals as goal

pub returns-then-c-le8297 : goal.returns-then-c-le8297
returns-then-c-le8297 c = isolate_class c.args.c L c.if-c-ge8294.true c.if-c-le8297.true

pub returns-then-c-le8238 : goal.returns-then-c-le8238
returns-then-c-le8238 c = embedding_class c.args.c L c.if-c-ge8234.true c.if-c-le8238.true
