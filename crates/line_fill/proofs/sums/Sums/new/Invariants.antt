use Rattle.line_fill.proofs.Summing.{Summed}
use Rattle.line_fill.proofs.sums.Sums.new.Given as goal

abbrev pub invariant-loop-item : goal.invariant-loop-item
invariant-loop-item l = Summed l.items l.places.items l.place l.item-index
