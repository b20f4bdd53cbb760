use Rattle.std.proofs.Common.{◌≡◌, drop}
use Rattle.bidi_resolve.specs.Neutral.{i1_i2}
use Rattle.bidi_resolve.specs.Places.{scattered}
use Rattle.bidi_resolve.proofs.places.write_levels.Given as goal

abbrev pub invariant-loop-k : goal.invariant-loop-k
invariant-loop-k l = scattered (drop l.k l.places) (i1_i2 l.frame.level (drop l.k l.classes)) l.levels ≡ scattered l.places (i1_i2 l.frame.level l.classes) l.fn.levels
