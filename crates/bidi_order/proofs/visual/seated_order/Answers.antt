use Rattle.std.proofs.Common.{◌≡◌, ◌∙◌, ap, sym, subst, ℕ, List, length, None, slice_index_or}
use Rattle.std.specs.List.{filter_map, range_with_len}
use Rattle.std.specs.List.Sorted.{IsPermutation}
use Rattle.std.proofs.lemmas.List.{length-map}
use Rattle.bidi_order.specs.declared.visual.Seat.{Seat}
use Rattle.bidi_order.specs.Visual.{seat, seats}
use Rattle.bidi_order.proofs.Runs.{all_below}
use Rattle.bidi_order.proofs.VisualLaws.{once}
use Rattle.bidi_order.proofs.visual.seated_order.Goals as goal

rearranged : goal.returns-clause-rearranged
rearranged c =
    let all : List Seat = seats c.args.line.now.levels.now c.args.line.now.aparts.now in
    let count : length c.deref-2.result.now ≡ length all =
    ap length (c.deref-2.ensures.value ∙ c.in_ok-own.ensures) ∙ length-map c.deref.result.now (λ (s : Seat). s.level) ∙ ap length (c.deref.ensures.value ∙ c.in_ok-seats.ensures) in
    let P : ℕ → Type 0 = λ n. IsPermutation (range_with_len 0 n) c.in_ok-order.order.items in
    let Q : List ℕ → Type 0 = λ places. IsPermutation (range_with_len 0 (length c.args.line.now.levels.now)) places in
    let are : c.in_ok-places.places.items ≡ filter_map (λ p. (slice_index_or all p (seat 0 None)).item) c.in_ok-order.order.items =
    c.in_ok-places.ensures
    ∙ ap (λ (own : List Seat). filter_map (λ p. (slice_index_or own p (seat 0 None)).item) c.deref-4.result.now) (c.deref-3.ensures.value ∙ c.in_ok-seats.ensures)
    ∙ ap (filter_map (λ p. (slice_index_or all p (seat 0 None)).item)) c.deref-4.ensures.value in
    subst Q (sym are) (once c.args.line.now.levels.now c.args.line.now.aparts.now c.in_ok-order.order.items c.args.line.now.each_apart (subst P count c.in_ok-order.ensures.rearranged))

pub returns-clause-rearranged : goal.returns-clause-rearranged
returns-clause-rearranged c = rearranged c

pub returns-clause-below : goal.returns-clause-below
returns-clause-below c = all_below (length c.args.line.now.levels.now) c.in_ok-places.places.items (rearranged c)
