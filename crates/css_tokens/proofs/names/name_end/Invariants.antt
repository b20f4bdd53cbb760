use Rattle.std.proofs.Common.{length}
use Rattle.css_tokens.specs.Characters.{is_name_byte}
use Rattle.reading.proofs.Running.{IsRunning}
use Rattle.css_tokens.proofs.names.name_end.Given as goal

abbrev pub invariant-loop-byte : goal.invariant-loop-byte
invariant-loop-byte l = IsRunning is_name_byte l.bytes l.rest

abbrev pub decreases-loop-byte : goal.decreases-loop-byte
decreases-loop-byte l = length l.rest
