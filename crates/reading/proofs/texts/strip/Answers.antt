use Rattle.reading.specs.Readers.{strip}
use Rattle.reading.proofs.SpellLaws.{ok}
use Rattle.reading.proofs.TextCuts.{strip_cut, strip_sliced, on_texts}
use Rattle.reading.proofs.texts.strip.Goals as goal

pub range_from-requires : goal.range_from-requires
range_from-requires c = λ some.
    let read = on_texts strip c.as_bytes.result.now c.as_bytes-2.result.now c.args.word.now c.args.text.now (ok (tt, c.in_ok-strip_bytes.field-0.now)) c.as_bytes.ensures.value c.as_bytes-2.ensures.value c.in_ok-strip_bytes.ensures in
    strip_cut c.args.word.now c.args.text.now c.in_ok-strip_bytes.field-0.now c.utf8.word c.utf8.text read

pub returns-clause-read : goal.returns-clause-read
returns-clause-read c =
    let read = on_texts strip c.as_bytes.result.now c.as_bytes-2.result.now c.args.word.now c.args.text.now (ok (tt, c.in_ok-strip_bytes.field-0.now)) c.as_bytes.ensures.value c.as_bytes-2.ensures.value c.in_ok-strip_bytes.ensures in
    strip_sliced c.args.word.now c.args.text.now c.in_ok-strip_bytes.field-0.now c.range_from.result.now read c.range_from.ensures.value
