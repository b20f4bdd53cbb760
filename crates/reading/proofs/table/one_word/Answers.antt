use Rattle.reading.specs.Readers.{one_word}
use Rattle.reading.specs.Names.{words_of}
use Rattle.reading.proofs.Tables.{words_here}
use Rattle.reading.proofs.table.one_word.Goals as goal

pub returns-in-Ok-clause-read : goal.returns-in-Ok-clause-read
returns-in-Ok-clause-read g c =
    words_here c.args.table.now c.loop-word.word-index c.loop-word-item.result c.loop-word.best.now c.args.text.now c.in-Ok.rest.now
    (one_word (words_of c.args.table.now) c.args.text.now) c.loop-word-test.true c.loop-word-item.is c.in-Ok.ensures.read c.loop-word.invariant
