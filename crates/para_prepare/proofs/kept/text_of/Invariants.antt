use Rattle.std.specs.Prelude.{◌≡◌, take, true, encode_utf8_all}
use Rattle.std.specs.String.{string_bytes}
use Rattle.std.proofs.Math.Utf8.{scalars}
use Rattle.para_prepare.specs.Kept.{chars_of}
use Rattle.para_prepare.proofs.kept.text_of.Given as goal

abbrev pub invariant-loop-letter : goal.invariant-loop-letter
invariant-loop-letter l =
    (string_bytes l.text ≡ encode_utf8_all (chars_of (take l.letter-index l.letters)))
    × (scalars (chars_of (take l.letter-index l.letters)) ≡ true)
