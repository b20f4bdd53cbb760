use Rattle.std.proofs.Common.{◌≡◌, ◌++◌, drop, map}
use Rattle.para_prepare.specs.declared.bidi_text.Role.TheVariants.{Continues}
use Rattle.para_prepare.specs.BidiText.{character}
use Rattle.para_prepare.specs.Parts.{class_in}
use Rattle.para_prepare.proofs.bidi_text.put_others.Given as goal

abbrev pub invariant-loop-letter : goal.invariant-loop-letter
invariant-loop-letter l =
    l.text.items ++ map (λ own. character own.char (class_in l.upright own.char) Continues) (drop l.letter-index l.letters)
    ≡ l.fn.text.items ++ map (λ own. character own.char (class_in l.upright own.char) Continues) l.letters
