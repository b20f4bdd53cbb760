use Rattle.std.proofs.Common.{◌≡◌, ◌≤◌}
use Rattle.bidi_explicit.specs.Links.{before_at}
use Rattle.bidi_explicit.proofs.sequences.level_before.Given as goal

abbrev pub invariant-loop-i : goal.invariant-loop-i
invariant-loop-i l = record {
  before : before_at l.levels l.i ≡ before_at l.levels l.place;
  within : l.i ≤ l.place;
}

abbrev pub decreases-loop-i : goal.decreases-loop-i
decreases-loop-i l = l.i
