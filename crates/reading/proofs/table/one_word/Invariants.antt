use Rattle.std.proofs.Common.{◌≡◌, drop}
use Rattle.reading.specs.Readers.{one_word, word_from}
use Rattle.reading.specs.Names.{words_of}
use Rattle.reading.proofs.table.one_word.Given as goal

abbrev pub invariant-loop-word : goal.invariant-loop-word
invariant-loop-word g l = word_from (words_of (drop l.word-index l.table)) l.best l.text ≡ one_word (words_of l.table) l.text
