use Rattle.std.proofs.Common.{◌≡◌, ◌++◌, take, drop}
use Rattle.bidi_explicit.specs.Explicit.{removed_marks}
use Rattle.bidi_explicit.proofs.explicit.mark.Given as goal

abbrev pub invariant-loop-i : goal.invariant-loop-i
invariant-loop-i l = take l.i l.marks ++ removed_marks (drop l.i l.classes) ≡ removed_marks l.classes
