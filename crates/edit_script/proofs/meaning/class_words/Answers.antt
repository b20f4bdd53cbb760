use Rattle.std.proofs.Common.{map}
use Rattle.std.specs.Prelude.{Some, None}
use Rattle.std.specs.String.{string_bytes}
use Rattle.std.specs.Str.Iter.{split_ascii_whitespace_text}
use Rattle.edit_script.proofs.ClassWords.{next_word, word_put, words_end, words_go_on}
use Rattle.edit_script.proofs.meaning.class_words.Goals as goal

pub loop-word-preserved : goal.loop-word-preserved
loop-word-preserved c =
    words_go_on (map (λ s. string_bytes s) c.loop-word.words.items) (map (λ s. string_bytes s) c.push.new.self.items) c.in-Some.word.now
    (split_ascii_whitespace_text c.loop-word.word-iterator) (split_ascii_whitespace_text c.next.new.self) c.args.text.now
    (word_put c.loop-word.words.items c.push.new.self.items c.in_ok-from_str.field-0 c.in-Some.word.now c.in_ok-push.ensures.items c.in_ok-from_str.ensures.ok)
    (next_word (split_ascii_whitespace_text c.loop-word.word-iterator) (split_ascii_whitespace_text c.next.new.self) (Some c.in-Some.word) c.in-Some.ensures.steps) c.loop-word.invariant

pub returns-clause-words : goal.returns-clause-words
returns-clause-words c =
    words_end (map (λ s. string_bytes s) c.loop-word.words.items) (split_ascii_whitespace_text c.loop-word.word-iterator) c.args.text.now
    (next_word (split_ascii_whitespace_text c.loop-word.word-iterator) (split_ascii_whitespace_text c.next.new.self) None c.in-None.ensures.steps) c.loop-word.invariant
