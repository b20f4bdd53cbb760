use Rattle.html_read.proofs.Words.{IsWordTo}
use Rattle.html_read.proofs.judging.word_end.Given as goal

abbrev pub invariant-loop-at : goal.invariant-loop-at
invariant-loop-at l = IsWordTo l.text l.at
