use Rattle.std.proofs.Common.{◌-◌, ◌<◌, length}
use Rattle.bidi_explicit.proofs.Following.{Reading}
use Rattle.bidi_explicit.proofs.sequences.take_places.Given as goal

abbrev pub invariant-loop-last : goal.invariant-loop-last
invariant-loop-last l = record {
  reading : Reading l.links l.fn.taken.items l.first l.last l.taken.items;
  within : l.last < length l.links;
}

abbrev pub decreases-loop-last : goal.decreases-loop-last
decreases-loop-last l = length l.links - l.last
