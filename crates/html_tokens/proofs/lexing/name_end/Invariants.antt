use Rattle.std.proofs.Common.{length}
use denote.Text.{Utf8}
use denote.Shadow.{shadow}
use Rattle.html_tokens.specs.Characters.{is_name_byte}
use Rattle.reading.proofs.Running.{IsRunning}
use Rattle.html_tokens.proofs.lexing.name_end.Given as goal

abbrev pub invariant-loop-byte : goal.invariant-loop-byte
invariant-loop-byte l = shadow (Utf8 l.rest) × IsRunning is_name_byte l.text l.rest

abbrev pub decreases-loop-byte : goal.decreases-loop-byte
decreases-loop-byte l = length l.rest
