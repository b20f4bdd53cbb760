use Rattle.std.specs.Prelude.{◌≡◌, ◌++◌, List, map, drop}
use Rattle.para_prepare.specs.Breaks.{break_class_of}
use Rattle.para_prepare.specs.Parts.{raws}
use Rattle.para_prepare.specs.Views.{parts_of}
use Rattle.para_prepare.specs.declared.letter.Letter.{Letter}
use Rattle.para_prepare.proofs.breaks.break_classes.Given as goal

abbrev pub invariant-loop-part : goal.invariant-loop-part
invariant-loop-part l = (letters : List Letter) → l.classes.items ++ map break_class_of (raws (parts_of letters (drop l.part-index l.parts))) ≡ map break_class_of (raws (parts_of letters l.parts))
