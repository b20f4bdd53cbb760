use Rattle.std.specs.Prelude.{drop}
use Rattle.para_prepare.proofs.InsideLaws.{AreRead}
use Rattle.para_prepare.proofs.inside.text_in.Given as goal

abbrev pub invariant-loop-i : goal.invariant-loop-i
invariant-loop-i l = AreRead l.text.items l.cut.upright l.cut.letters.now l.at (drop l.i l.cut.units.now) l.cut.units.now
