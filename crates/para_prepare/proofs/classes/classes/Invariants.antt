use Rattle.std.specs.Prelude.{◌≡◌, ◌++◌, map, drop}
use Rattle.para_prepare.specs.Glyph.{class_of}
use Rattle.para_prepare.specs.Parts.{raws}
use Rattle.para_prepare.specs.Views.{parts_of}
use Rattle.para_prepare.proofs.classes.classes.Given as goal

abbrev pub invariant-loop-part : goal.invariant-loop-part
invariant-loop-part l = l.classes.items ++ map class_of (raws (parts_of l.letters (drop l.part-index l.parts))) ≡ map class_of (raws (parts_of l.letters l.parts))
