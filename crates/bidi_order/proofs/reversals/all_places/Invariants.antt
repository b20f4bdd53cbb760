use Rattle.std.proofs.Common.{◌≡◌, length, take}
use Rattle.std.specs.List.{range_with_len}
use Rattle.bidi_order.proofs.reversals.all_places.Given as goal

abbrev pub invariant-loop-place : goal.invariant-loop-place
invariant-loop-place l = record {
  made : take l.place l.places.items ≡ range_with_len 0 l.place;
  many : length l.places.items ≡ l.n;
}
