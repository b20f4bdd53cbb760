use Rattle.std.proofs.Common.{◌≤◌, length}
use Rattle.std.specs.Char.{is_ascii_digit}
use denote.Text.{Utf8}
use denote.Shadow.{shadow}
use Rattle.reading.proofs.Running.{IsRunning}
use Rattle.css_tokens.proofs.numbers.behind_digits.Given as goal

abbrev pub invariant-loop-after : goal.invariant-loop-after
invariant-loop-after l = shadow (Utf8 l.rest) × IsRunning is_ascii_digit l.text l.rest × (length l.rest ≤ length l.text)

abbrev pub decreases-loop-after : goal.decreases-loop-after
decreases-loop-after l = length l.rest
