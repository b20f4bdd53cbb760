use Rattle.std.proofs.Common.{◌≡◌, ◌≤◌, drop}
use Rattle.bidi_explicit.specs.Base.{first_strong}
use Rattle.bidi_explicit.proofs.Strong.{counted}
use Rattle.bidi_explicit.proofs.base.base_level.Given as goal

abbrev pub invariant-loop-class : goal.invariant-loop-class
invariant-loop-class l = record {
  found : counted (drop l.class-index l.classes) l.depth ≡ first_strong l.classes;
  few : l.depth ≤ l.class-index;
}
