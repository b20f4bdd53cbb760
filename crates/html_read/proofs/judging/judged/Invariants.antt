use Rattle.std.specs.Vec.Iter.{into_iter_items, into_iter_len}
use Rattle.html_read.specs.Values.{acting_of}
use Rattle.html_read.proofs.Judges.{IsJudging}
use Rattle.html_read.proofs.judging.judged.Given as goal

abbrev pub invariant-loop-attribute : goal.invariant-loop-attribute
invariant-loop-attribute l = IsJudging l.fn.size l.fn.attributes.items (into_iter_items l.attribute-iterator) (into_iter_len l.attribute-iterator) l.seen (acting_of l.said)
