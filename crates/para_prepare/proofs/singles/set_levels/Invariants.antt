use Rattle.std.proofs.Common.{◌≡◌, ◌++◌, take, drop, length}
use Rattle.para_prepare.specs.Singles.{at_levels}
use Rattle.para_prepare.proofs.singles.set_levels.Given as goal

abbrev pub invariant-loop-i : goal.invariant-loop-i
invariant-loop-i l =
    (take l.i l.items ++ at_levels (drop l.i l.items) (drop l.i l.levels) ≡ at_levels l.fn.items l.levels)
    × (length l.items ≡ length l.fn.items)
