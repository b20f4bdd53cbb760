use Rattle.std.proofs.Common.{◌≡◌, take, None}
use Rattle.std.specs.Prelude.{slice_index_or}
use Rattle.std.specs.List.{filter_map}
use Rattle.bidi_order.specs.Visual.{seat}
use Rattle.bidi_order.proofs.visual.items_of.Given as goal

abbrev pub invariant-loop-place : goal.invariant-loop-place
invariant-loop-place l = l.places.items ≡ filter_map (λ p. (slice_index_or l.seats p (seat 0 None)).item) (take l.place-index l.order)
