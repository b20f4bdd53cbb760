use Rattle.std.proofs.Common.{◌≤◌, length}
use denote.Text.{Utf8}
use denote.Shadow.{shadow}
use Rattle.css_tokens.proofs.Counting.{IsCounting}
use Rattle.css_tokens.proofs.numbers.whole.Given as goal

abbrev pub invariant-loop-byte : goal.invariant-loop-byte
invariant-loop-byte l = shadow (Utf8 l.rest) × IsCounting l.text l.value l.rest × (l.value ≤ 10000000) × (length l.rest ≤ length l.text)

abbrev pub decreases-loop-byte : goal.decreases-loop-byte
decreases-loop-byte l = length l.rest
