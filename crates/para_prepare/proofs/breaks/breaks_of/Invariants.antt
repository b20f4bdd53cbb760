use Rattle.std.specs.Prelude.{◌≡◌, ◌<◌, ◌+◌, ◌-◌, ◌++◌, ◌∷◌, drop, length}
use Rattle.std.specs.Vec.{vec_capacity, vec_len}
use Rattle.para_prepare.specs.Breaks.{breaks_of}
use Rattle.para_prepare.proofs.breaks.breaks_of.Given as goal

abbrev pub invariant-loop-after : goal.invariant-loop-after
invariant-loop-after l = record {
  done : l.out.items ++ breaks_of (l.before ∷ drop l.after-index l.rest) ≡ breaks_of l.fn.classes;
  room : vec_len l.out + (length l.rest - l.after-index) < vec_capacity l.out;
}
