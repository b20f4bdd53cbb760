use Rattle.html_tokens.proofs.Joining.{IsPlainTo}
use Rattle.html_tokens.proofs.written.plain_end.Given as goal

abbrev pub invariant-loop-at : goal.invariant-loop-at
invariant-loop-at l = IsPlainTo l.quote l.text l.at
