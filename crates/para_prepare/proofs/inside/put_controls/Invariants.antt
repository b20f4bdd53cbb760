use Rattle.std.specs.Prelude.{◌≡◌, ◌++◌, map, drop}
use Rattle.para_prepare.specs.Inside.{inside_characters}
use Rattle.para_prepare.specs.Parts.{control_of}
use Rattle.para_prepare.proofs.inside.put_controls.Given as goal

abbrev pub invariant-loop-letter : goal.invariant-loop-letter
invariant-loop-letter l = l.text.items ++ inside_characters (map (control_of l.upright) (drop l.letter-index l.controls)) ≡ l.fn.text.items ++ inside_characters (map (control_of l.upright) l.controls)
