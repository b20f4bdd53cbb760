use Rattle.std.proofs.Common.{◌≡◌, ◌++◌, drop, map}
use Rattle.bidi_explicit.specs.Links.{sequence_of}
use Rattle.bidi_explicit.specs.Spans.{sequence_at}
use Rattle.bidi_explicit.proofs.lists.copied.Given as goal

abbrev pub invariant-loop-i : goal.invariant-loop-i
invariant-loop-i l = map sequence_of l.runs.items ++ map (sequence_at l.flat.places.items) (drop l.i l.flat.spans.items) ≡ map (sequence_at l.flat.places.items) l.flat.spans.items
