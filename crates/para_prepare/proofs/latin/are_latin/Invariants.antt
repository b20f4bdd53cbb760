use Rattle.std.proofs.Common.{◌≡◌, take}
use Rattle.std.specs.List.{list_all}
use Rattle.para_prepare.specs.Latin.{is_latin}
use Rattle.para_prepare.proofs.latin.are_latin.Given as goal

-- each that was looked at is one, or not
abbrev pub invariant-loop-letter : goal.invariant-loop-letter
invariant-loop-letter l = l.all ≡ list_all (λ l. is_latin l.char) (take l.letter-index l.letters)
