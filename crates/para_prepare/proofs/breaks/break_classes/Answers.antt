use Rattle.std.proofs.Common.{rules}
use Rattle.std.proofs.lemmas.List.{drop_all}
use Rattle.para_prepare.specs.Breaks.{break_class_of}
use Rattle.para_prepare.proofs.RawsLaws.{raws_end, raws_step}
use Rattle.para_prepare.proofs.breaks.break_classes.Goals as goal

pub loop-part-preserved : goal.loop-part-preserved
loop-part-preserved c = λ letters.
    raws_step break_class_of letters c.args.parts.now c.loop-part.part-index c.part-item.result c.loop-part.classes.items _ _ (search rules) c.part-item.is
    (c.loop-part.invariant letters) (c.in_ok-add_class.ensures letters)

pub returns : goal.returns
returns c = λ letters.
    raws_end break_class_of letters c.args.parts.now _ c.loop-part.classes.items _ (drop_all c.loop-part.part-index c.args.parts.now (search rules)) (c.loop-part.invariant letters)
