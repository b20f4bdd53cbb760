-- Where nothing parts two items, L2 orders the items alone.
use Rattle.std.proofs.Common.{◌≡◌, ◌∙◌, ap, sym, refl, arith, ℕ, zero, suc, ◌+◌, ◌<◌, true, List, [], ◌∷◌, length, map, Option, Some, None, slice_index_or}
use Rattle.std.specs.Prelude.{All}
use Rattle.std.specs.List.{filter_map, list_all}
use Rattle.std.proofs.lemmas.List.Elements.{All-head, All-tail}
use Rattle.bidi_order.proofs.VisualLaws.{within_length}
use Rattle.bidi_order.specs.declared.visual.Seat.{Seat}
use Rattle.bidi_order.specs.Reversals.{order}
use Rattle.bidi_order.specs.Visual.{parts_nothing, seat, seats, seats_from, visual_order, within_line}

own_levels : (item : ℕ) (levels : List ℕ) (aparts : List (Option ℕ)) → length levels ≡ length aparts → list_all parts_nothing aparts ≡ true
    → map (λ seat. seat.level) (seats_from item levels aparts) ≡ levels
own_levels item [] aparts many none = refl
own_levels item (level ∷ levels) [] many none = absurd (omega arith)
own_levels item (level ∷ levels) (None ∷ aparts) many none = ap (λ l. level ∷ l) (own_levels (item + 1) levels aparts (omega arith) none)
own_levels item (level ∷ levels) (Some apart ∷ aparts) many none = absurd (cc)

seat_at : (item : ℕ) (levels : List ℕ) (aparts : List (Option ℕ)) (p : ℕ) (d : Seat) → length levels ≡ length aparts → list_all parts_nothing aparts ≡ true → p < length levels
    → (slice_index_or (seats_from item levels aparts) p d).item ≡ Some (item + p)
seat_at item [] aparts p d many none lt = absurd (omega arith)
seat_at item (level ∷ levels) [] p d many none lt = absurd (omega arith)
seat_at item (level ∷ levels) (None ∷ aparts) zero d many none lt = let here : item ≡ item + 0 = omega arith in ap Some here
seat_at item (level ∷ levels) (None ∷ aparts) (suc p) d many none lt =
    let next : item + 1 + p ≡ item + suc p = omega arith in
    seat_at (item + 1) levels aparts p d (omega arith) none (omega arith) ∙ ap Some next
seat_at item (level ∷ levels) (Some apart ∷ aparts) p d many none lt = absurd (cc)

picked : (h : ℕ → Option ℕ) (n : ℕ) (places : List ℕ) → ((p : ℕ) → p < n → h p ≡ Some p) → All (λ p. p < n) places → filter_map h places ≡ places
picked h n [] each below = refl
picked h n (p ∷ places) each below =
    rw (each p (All-head (λ p. p < n) p places below)) (ap (λ l. p ∷ l) (picked h n places each (All-tail (λ p. p < n) p places below)))

pub together : (levels : List ℕ) (aparts : List (Option ℕ)) (places : List ℕ) → length levels ≡ length aparts → list_all parts_nothing (within_line aparts) ≡ true
    → places ≡ order levels → All (λ p. p < length levels) places → places ≡ visual_order levels aparts
unfolding visual_order
together levels aparts places many none is below =
    let same = within_length aparts in
    let long : length levels ≡ length (within_line aparts) = omega arith in
    let h : ℕ → Option ℕ = λ p. (slice_index_or (seats levels aparts) p (seat 0 None)).item in
    let each : (p : ℕ) → p < length levels → h p ≡ Some p = λ p lt.
    let zero_more : 0 + p ≡ p = omega arith in
    seat_at 0 levels (within_line aparts) p (seat 0 None) long none lt ∙ ap Some zero_more in
    sym (ap (λ own. filter_map h (order own)) (own_levels 0 levels (within_line aparts) long none)
    ∙ ap (filter_map h) (sym is) ∙ picked h (length levels) places each below)
