use Rattle.std.proofs.Common.{◌≡◌, ◌∙◌, ap, sym, rules, ℕ, ◌+◌, ◌<◌, List, [], ◌∷◌, ◌++◌, length, get_or, take, Option, None}
use Rattle.std.specs.List.{filter_map}
use Rattle.std.proofs.lemmas.List.{get_or_default}
use Rattle.basic_laws.proofs.Lists.{filter_map_more}
use Rattle.bidi_order.specs.declared.visual.Seat.{Seat}
use Rattle.bidi_order.specs.Visual.{seat}
use Rattle.bidi_order.proofs.visual.items_of.Goals as goal

step : (seats : List Seat) (order : List ℕ) (i : ℕ) (places : List ℕ) (d : Seat) → i < length order → get_or order i 0 < length seats
    → places ≡ filter_map (λ p. (get_or seats p (seat 0 None)).item) (take i order)
    → places ++ filter_map (λ (x : Option ℕ). x) ((get_or seats (get_or order i 0) d).item ∷ []) ≡ filter_map (λ p. (get_or seats p (seat 0 None)).item) (take (i + 1) order)
step seats order i places d at within before =
    let same : (get_or seats (get_or order i 0) d).item ≡ (get_or seats (get_or order i 0) (seat 0 None)).item = ap (λ (s : Seat). s.item) (get_or_default seats (get_or order i 0) d (seat 0 None) within) in
    let f : ℕ → Option ℕ = λ p. (get_or seats p (seat 0 None)).item in
    let more : filter_map f (take (i + 1) order) ≡ filter_map f (take i order) ++ filter_map (λ (x : Option ℕ). x) (f (get_or order i 0) ∷ []) = filter_map_more f order i 0 at in
    ap (λ (x : List ℕ). x ++ filter_map (λ (x : Option ℕ). x) ((get_or seats (get_or order i 0) d).item ∷ [])) before
    ∙ ap (λ (x : Option ℕ). filter_map f (take i order) ++ filter_map (λ (x : Option ℕ). x) (x ∷ [])) same
    ∙ sym more

pub loop-place-preserved : goal.loop-place-preserved
loop-place-preserved c = c.in_ok-add_item.ensures ∙ step c.args.seats.now c.args.order.now c.loop-place.place-index c.loop-place.places.items _ (search rules) (search rules) c.loop-place.invariant
