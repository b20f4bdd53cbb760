use Rattle.std.proofs.Common.{◌≡◌, drop}
use Rattle.bidi_resolve.specs.Places.{scattered}
use Rattle.bidi_resolve.proofs.places.write_classes.Given as goal

abbrev pub invariant-loop-k : goal.invariant-loop-k
invariant-loop-k l = scattered (drop l.k l.places) (drop l.k l.new) l.classes ≡ scattered l.places l.new l.fn.classes
