-- What the loop over the items keeps, and what the places tell then.
use Rattle.std.proofs.Common.{◌≡◌, ◌∙◌, refl, sym, ap, arith, List, [], ◌∷◌, ◌++◌, ◌⊎◌, inl, inr, ℕ, zero, suc, ◌+◌, ◌≤◌, ◌<◌, ◌^◌, ℤ, unsigned_abs, length, length-append, max, take, get_or}
use Rattle.std.specs.Prelude.{slice_get, Some}
use Rattle.std.proofs.lemmas.List.{get_or_append_left}
use Rattle.std.proofs.Math.Seq.{get_or-append_seam}
use Rattle.std.proofs.Math.Nat.{eq-or-lt_of_le}
use Rattle.std.proofs.lemmas.Option.{slice_get-get_or, get_or_from_slice_get, slice_get_within}
use Rattle.std.proofs.lemmas.List.Sums.{sum_by-take-le, sum_by-take-drop, sum_by-drop_more}
use Rattle.line_fill.specs.declared.item.FillItem.{FillItem}
use Rattle.line_fill.specs.declared.sums.Place.{Place}
use Rattle.line_fill.specs.Item.{width, solid, lengths_of, spread}
use Rattle.line_fill.specs.Sums.{place_before, place_after, width_between, StandFor, AreNear, IsNear}
use Rattle.line_fill.proofs.Widths.{place_more, place_near, width_is, solid-le}
use Rattle.std.proofs.lemmas.List.{length-take}

-- the places before the first i items and behind them are made
pub record Summed (items : List FillItem) (places : List Place) (place : Place) (i : ℕ) : Type 0 where
  pub count : length places ≡ suc i
  pub each : (k : ℕ) → k ≤ i → slice_get places k ≡ Some (place_before items k)
  pub at : place ≡ place_before items i

pub summed_first : (items : List FillItem) (places : List Place) (place : Place) → place ≡ place_before items 0 → places ≡ place ∷ [] → Summed items places place 0
summed_first items places place at is = rw is (record { count = refl; each = λ k within. each k within; at = at })
  where
    each : (k : ℕ) → k ≤ 0 → slice_get (place ∷ []) k ≡ Some (place_before items k)
    each zero within = ap Some at
    each (suc k) within = absurd (omega arith)

-- there is room for one item more
pub room_after : (items : List FillItem) (place : Place) (i : ℕ) (d : FillItem) → i < length items → place ≡ place_before items i → spread items ≤ 2 ^ 60
    → unsigned_abs place.edges + unsigned_abs place.advances + lengths_of (get_or items i d) ≤ 2 ^ 60
room_after items place i d inside at room =
    let n = place_near items i in
    let t = sum_by-take-drop lengths_of items i in
    let m = sum_by-drop_more lengths_of items i d inside in
    rw at (omega arith)

-- what a list keeps of its elements when one is put behind them
pub kept : (places : List Place) (place : Place) (k : ℕ) (q : Place) → slice_get places k ≡ Some q → slice_get (places ++ place ∷ []) k ≡ Some q
kept places place k q e =
    let within = slice_get_within places k q e in
    let l = length-append places (place ∷ []) in
    slice_get-get_or (places ++ place ∷ []) k q (omega arith) ∙ ap Some (get_or_append_left places (place ∷ []) q k within ∙ get_or_from_slice_get places k q q e)

pub added : (places : List Place) (place : Place) → slice_get (places ++ place ∷ []) (length places) ≡ Some place
added places place =
    let l = length-append places (place ∷ []) in
    slice_get-get_or (places ++ place ∷ []) (length places) place (omega arith) ∙ ap Some (get_or-append_seam places place [] place)

pub summed_on : (items : List FillItem) (places more : List Place) (place next : Place) (i : ℕ) (d : FillItem) (n : ℕ) → i < length items
    → n ≡ length places → next ≡ place_after place (get_or items i d) n → more ≡ places ++ next ∷ []
    → Summed items places place i → Summed items more next (i + 1)
summed_on items places more place next i d n inside counted stepped pushed summed =
    let count = summed.count in
    let number : n ≡ suc i = omega arith in
    let at : next ≡ place_before items (i + 1) = stepped ∙ (ap (λ p. place_after p (get_or items i d) n) summed.at ∙ (ap (place_after (place_before items i) (get_or items i d)) number ∙ place_more items i d inside)) in
    rw pushed (record {
      count = length-append places (next ∷ []) ∙ omega arith;
      each = λ k within. each k (eq-or-lt_of_le within) at;
      at = at;
    })
  where
    each : (k : ℕ) → (k ≡ i + 1) ⊎ (k < i + 1) → next ≡ place_before items (i + 1) → slice_get (places ++ next ∷ []) k ≡ Some (place_before items k)
    each k (inr low) at = kept places next k (place_before items k) (summed.each k (omega arith))
    each k (inl e) at =
        let l : k ≡ length places = let count = summed.count in omega arith in
        let a = added places next in
        rw l (a ∙ ap Some (at ∙ ap (place_before items) (sym e ∙ l)))

-- then the places stand for the items
pub summed_all : (items : List FillItem) (places : List Place) (place : Place) (i : ℕ) → i ≤ length items → length items ≤ i → Summed items places place i → StandFor items places
summed_all items places place i h k summed =
    let e : i ≡ length items = omega arith in
    record { count = summed.count ∙ ap suc e; each = λ j within. summed.each j (omega arith) }

pub stand_near : (items : List FillItem) (places : List Place) → spread items ≤ 2 ^ 60 → StandFor items places → AreNear places
stand_near items places room stand = λ k place at. near k place at
  where
    near : (k : ℕ) (place : Place) → slice_get places k ≡ Some place → IsNear k place
    near k place at =
        let within = slice_get_within places k place at in
        let count = stand.count in
        let is : place ≡ place_before items k = sym (get_or_from_slice_get places k place place at) ∙ get_or_from_slice_get places k (place_before items k) place (stand.each k (omega arith)) in
        let n = place_near items k in
        let t = sum_by-take-le lengths_of items k in
        let s = solid-le (take k items) in
        let l = length-take k items in
        rw is (record { lengths = omega arith; solid = omega arith })

-- what a place of items is
pub place_told : (items : List FillItem) (places : List Place) (k : ℕ) (place : Place) → k < length places → place ≡ get_or places k place → StandFor items places → place ≡ place_before items k
place_told items places k place within at stand =
    let count = stand.count in
    at ∙ get_or_from_slice_get places k (place_before items k) place (stand.each k (omega arith))

pub content_told : (items : List FillItem) (from to m : ℕ) (end content : Place) → end ≡ place_before items to → m ≡ max from end.solid → content ≡ place_before items m
    → content ≡ place_before items (max from (solid (take to items)))
content_told items from to m end content at most told = told ∙ ap (place_before items) (most ∙ ap (λ p. max from p.solid) at)

pub width_told : (items : List FillItem) (from to : ℕ) (start end content : Place) (w : ℤ) → from ≤ to → to ≤ length items
    → start ≡ place_before items from → end ≡ place_before items to → content ≡ place_before items (max from (solid (take to items))) → w ≡ width_between start end content
    → w ≡ width items from to
width_told items from to start end content w order within s e k told = told ∙ (rw (s, e, k) (sym (width_is items from to order within)))
