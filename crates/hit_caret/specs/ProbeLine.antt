-- Reading a line of a probe, from its first byte to its last.
use Rattle.std.specs.Prelude.{ℕ, List, map, codes, ℤ, pos, neg_ℤ}
use Rattle.reading.specs.Readers.{Reader, after, choice, follow, mapped, one_word, starts}
use Rattle.reading.specs.Decimals.{number}
use Rattle.hit_caret.specs.declared.probe_line.TheConstants.{WORDS}
use Rattle.hit_caret.specs.declared.probe_line.Word.{Word}
use Rattle.hit_caret.specs.declared.probe_line.Word.TheVariants as words_
use Rattle.hit_caret.specs.declared.probes.Probe.{Probe}
use Rattle.hit_caret.specs.declared.probes.Probe.TheVariants as probes

unfoldable pub words : List (List ℕ × Word)
words = map (λ row. (row.0.now, row.1)) WORDS

-- a number of one to ten digits, behind a sign where it is below zero
abbrev pub negated : ℕ → ℤ
negated n = neg_ℤ (pos n)

unfoldable pub negative : Reader ℤ
negative = after (codes "-") (mapped negated (number 10))

unfoldable pub signed_number : Reader ℤ
signed_number = choice (starts (codes "-")) negative (mapped pos (number 10))

-- a space and such a number
unfoldable pub coordinate : Reader ℤ
coordinate = after (codes " ") signed_number

-- a space, and a number of one to seven digits
unfoldable pub argument : Reader ℕ
argument = after (codes " ") (number 7)

unfoldable pub point : Reader Probe
point = follow coordinate (λ x. mapped (λ y. probes.At x y) coordinate)

unfoldable pub caret : Reader Probe
caret = follow argument (λ node. mapped (λ place. probes.Caret node place) argument)

-- what stands behind each word
unfoldable pub arguments : Word → Reader Probe
arguments words_.Point = point
arguments words_.Caret = caret

-- a word and what stands behind it
unfoldable pub probe : Reader Probe
probe = follow (one_word words) arguments
