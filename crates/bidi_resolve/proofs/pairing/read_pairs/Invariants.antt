use Rattle.std.proofs.Common.{◌≡◌, drop}
use Rattle.bidi_resolve.specs.Pairing.{read, read_all}
use Rattle.bidi_resolve.specs.Pairing.{reading_of, IsWithin}
use Rattle.bidi_resolve.specs.Isolating.{chars_in}
use Rattle.bidi_resolve.proofs.pairing.read_pairs.Given as goal

abbrev pub invariant-loop-k : goal.invariant-loop-k
invariant-loop-k l = record {
  reads : read l.k (drop l.k (chars_in l.sequence)) (drop l.k l.classes) (reading_of l.pairing) ≡ read_all (chars_in l.sequence) l.classes;
  within : IsWithin l.k (reading_of l.pairing);
}
