use Rattle.std.proofs.Common.{◌≡◌, ◌<◌, ◌++◌, length, All}
use Rattle.std.specs.List.{slice_range}
use Rattle.bidi_explicit.specs.Explicit.{removed_marks}
use Rattle.bidi_explicit.specs.Sequences.{kept_from}
use Rattle.bidi_order.specs.Line.{line_places}
use Rattle.bidi_order.proofs.line.line_places.Given as goal

abbrev pub invariant-loop-place : goal.invariant-loop-place
invariant-loop-place l = record {
  done : l.places.items ++ kept_from l.place (removed_marks (slice_range l.classes l.place l.stop)) ≡ line_places l.classes l.start l.stop;
  within : All (λ p. p < length l.classes) l.places.items;
}
