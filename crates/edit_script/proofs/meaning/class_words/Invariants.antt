use Rattle.std.proofs.Common.{◌≡◌, ◌++◌, map}
use Rattle.std.specs.String.{string_bytes}
use Rattle.std.specs.Str.Iter.{split_ascii_whitespace_text}
use Rattle.html_read.specs.Judging.{words}
use Rattle.edit_script.proofs.meaning.class_words.Given as goal

abbrev pub invariant-loop-word : goal.invariant-loop-word
invariant-loop-word l = map (λ s. string_bytes s) l.words.items ++ words (split_ascii_whitespace_text l.word-iterator) ≡ words l.text
