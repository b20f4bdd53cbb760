use Rattle.std.proofs.Common.{◌≡◌, ◌≤◌, ◌<◌, ℕ, take, drop, get_or, length}
use Rattle.bidi_resolve.specs.Brackets.{context}
use Rattle.bidi_resolve.specs.Pairing.{resolve_read}
use Rattle.bidi_resolve.specs.Isolating.{originals_in}
use Rattle.bidi_resolve.proofs.brackets.resolve_pairs.Given as goal

abbrev pub invariant-loop-k : goal.invariant-loop-k
invariant-loop-k l = record {
  last : l.context.last ≡ context l.sequence.frame.sos (take l.context.seen l.classes);
  seen : (k : ℕ) → l.k ≤ k → k < length l.pairs.openings.items → l.context.seen ≤ get_or l.pairs.openings.items k 0;
  rest : resolve_read l.sequence.frame.level l.sequence.frame.sos (drop l.k l.pairs.openings.items) (drop l.k l.pairs.closings.items) (originals_in l.sequence) l.classes
      ≡ resolve_read l.sequence.frame.level l.sequence.frame.sos l.pairs.openings.items l.pairs.closings.items (originals_in l.sequence) l.fn.classes;
}
