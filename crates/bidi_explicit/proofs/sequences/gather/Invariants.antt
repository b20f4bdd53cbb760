use Rattle.std.proofs.Common.{map}
use Rattle.bidi_explicit.specs.Links.{before_at}
use Rattle.bidi_explicit.specs.Spans.{AreSpans, sequence_at}
use Rattle.bidi_explicit.proofs.Gathering.{IsGathering}
use Rattle.bidi_explicit.proofs.sequences.gather.Given as goal

abbrev pub invariant-loop-i : goal.invariant-loop-i
invariant-loop-i l = record {
  gathering : IsGathering l.levels l.links l.i (before_at l.levels l.i) (map (sequence_at l.flat.places.items) l.flat.spans.items);
  spans : AreSpans l.flat.places.items l.flat.spans.items;
}
