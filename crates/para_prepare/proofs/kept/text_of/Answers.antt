use Rattle.std.proofs.Common.{◌≡◌, ◌∙◌, ◌∷◌, [], true, ap, take, slice_index_or, rules}
use Rattle.std.proofs.lemmas.List.{take_all}
use Rattle.std.proofs.lemmas.Str.{chars-encodes}
use Rattle.std.proofs.Math.Utf8.{scalars}
use Rattle.std.specs.Str.{chars}
use Rattle.para_prepare.specs.Kept.{chars_of}
use Rattle.para_prepare.proofs.TextLaws.{scalars_more, text_more}
use Rattle.para_prepare.proofs.kept.text_of.Goals as goal

pub loop-letter-preserved : goal.loop-letter-preserved
loop-letter-preserved c =
    let is : scalars ((slice_index_or c.args.letters.now c.loop-letter.letter-index (record { place = 0; char = 0 })).char ∷ []) ≡ true = search rules in (
      text_more c.args.letters.now c.loop-letter.letter-index _ _ _ c.loop-letter-test.true c.loop-letter.invariant.0 c.in_ok-push.ensures.bytes,
      scalars_more c.args.letters.now c.loop-letter.letter-index _ c.loop-letter-test.true c.loop-letter.invariant.1 is,
    )

pub returns-clause-chars : goal.returns-clause-chars
returns-clause-chars c =
    ap chars c.loop-letter.invariant.0
    ∙ chars-encodes (chars_of (take c.loop-letter.letter-index c.args.letters.now)) c.loop-letter.invariant.1
    ∙ ap chars_of (take_all c.loop-letter.letter-index c.args.letters.now c.loop-letter-test.false)
