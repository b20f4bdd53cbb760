use Rattle.std.proofs.Common.{◌≡◌, ◌++◌, drop}
use Rattle.bidi_order.specs.Visual.{seats, seats_from, within_line}
use Rattle.bidi_order.proofs.visual.seats.Given as goal

abbrev pub invariant-loop-i : goal.invariant-loop-i
invariant-loop-i l =
    l.seats.items ++ seats_from l.i (drop l.i l.levels) (drop l.i (within_line l.aparts)) ≡ seats l.levels l.aparts
