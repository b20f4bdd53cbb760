use Rattle.std.proofs.Common.{◌≡◌, ◌++◌, take, drop}
use Rattle.bidi_resolve.specs.Brackets.{follow, become}
use Rattle.bidi_resolve.specs.Isolating.{originals_in}
use Rattle.bidi_resolve.proofs.brackets.become_class.Given as goal

abbrev pub invariant-loop-k : goal.invariant-loop-k
invariant-loop-k l = take l.k l.classes ++ follow l.class (drop l.k (originals_in l.sequence)) (drop l.k l.classes) ≡ become l.class l.place (originals_in l.sequence) l.fn.classes
