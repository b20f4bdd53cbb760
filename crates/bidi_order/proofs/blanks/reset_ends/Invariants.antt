use Rattle.bidi_order.proofs.Resets.{Resets}
use Rattle.bidi_order.proofs.blanks.reset_ends.Given as goal

abbrev pub invariant-loop-i : goal.invariant-loop-i
invariant-loop-i l = Resets l.base l.fn.levels l.levels l.classes l.leads_out l.i

abbrev pub decreases-loop-i : goal.decreases-loop-i
decreases-loop-i l = l.i
