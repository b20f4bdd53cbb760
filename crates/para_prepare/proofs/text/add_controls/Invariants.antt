use Rattle.std.specs.Prelude.{◌≡◌, ◌++◌, map, take}
use Rattle.para_prepare.specs.Views.{stored_control}
use Rattle.para_prepare.proofs.text.add_controls.Given as goal

abbrev pub invariant-loop-letter : goal.invariant-loop-letter
invariant-loop-letter l = l.parts.items ≡ l.fn.parts.items ++ map (stored_control l.upright) (take l.letter-index l.letters)
