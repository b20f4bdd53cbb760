use Rattle.std.proofs.Common.{sym, arith}
use Rattle.std.proofs.lemmas.Str.{IsCharBoundary-after_ascii}
use Rattle.reading.proofs.TextCuts.{first_low}
use Rattle.reading.proofs.texts.first.Goals as goal

pub range_from-requires : goal.range_from-requires
range_from-requires c = λ some. IsCharBoundary-after_ascii c.args.text.now 0 c.utf8.text (omega (arith, c.in-len1-up.len_at_least)) (first_low c.as_bytes.result.now c.args.text.now c.as_bytes.ensures.value (sym c.if-is_ascii.ensures))
