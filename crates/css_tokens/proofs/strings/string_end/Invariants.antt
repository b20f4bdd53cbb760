use Rattle.std.proofs.Common.{length}
use Rattle.css_tokens.proofs.Stringing.{IsIn}
use Rattle.css_tokens.proofs.strings.string_end.Given as goal

abbrev pub invariant-loop-rest : goal.invariant-loop-rest
invariant-loop-rest l = IsIn l.quote l.bytes l.rest

abbrev pub decreases-loop-rest : goal.decreases-loop-rest
decreases-loop-rest l = length l.rest
