use Rattle.std.proofs.Common.{◌≡◌, ◌∙◌, ap, sym, arith, subst, ℕ, ◌+◌, ◌<◌, ◌≤◌, List, [], ◌∷◌, ◌++◌, length, map, get_or, take, Option, Some}
use Rattle.std.specs.Prelude.{slice_get}
use Rattle.std.specs.List.{All, filter_map, range_with_len}
use Rattle.std.proofs.lemmas.List.Elements.{All-push}
use Rattle.std.specs.List.Sorted.{IsPermutation}
use Rattle.std.proofs.lemmas.List.{map_push, take_all}
use Rattle.bidi_order.specs.Visual.{visual_order}
use Rattle.line_place.specs.Line.{Item, Line, line_in}
use Rattle.line_place.specs.declared.leaves.Leaf as code
use Rattle.line_place.specs.Leaves.{Leaf, leaf_in, leaves, leaves_from, levels_of}
use Rattle.line_place.proofs.Lists.{filter_map_more}
use Rattle.line_place.proofs.ReachLaws.{leaves_reach}
use Rattle.line_place.proofs.leaves.ordered_leaves.Goals as goal

step : (of : code.Leaf → Leaf) (h : ℕ → Option Leaf) (order : List ℕ) (i : ℕ) (made : List code.Leaf) (own : code.Leaf) → map of made ≡ filter_map h (take i order)
    → Some (of own) ≡ h (get_or order i 0) → i < length order → map of (made ++ own ∷ []) ≡ filter_map h (take (i + 1) order)
step of h order i made own before is at =
    map_push of made own
    ∙ ap (λ (x : List Leaf). x ++ of own ∷ []) before
    ∙ ap (λ (x : Option Leaf). filter_map h (take i order) ++ filter_map (λ (x : Option Leaf). x) (x ∷ [])) is
    ∙ sym (filter_map_more h order i 0 at)

pub leaf_at-requires-clause-place : goal.leaf_at-requires-clause-place
leaf_at-requires-clause-place g c =
    let l = ap length c.deref-place-items.ensures.value in
    let at = ap (λ (places : List ℕ). get_or places c.loop-place.place-index 0) c.deref-place-items.ensures.value in
    let below = c.in_ok-order.ensures.below c.loop-place.place-index 0 (omega (arith, l)) in
    let n = ap length c.deref.ensures.value in
    omega (arith, at, below, n, c.in_ok-levels.ensures.length)

pub loop-place-preserved : goal.loop-place-preserved
loop-place-preserved g c =
    let items : List Item = g.S.LineSource.items c.args.source.now in
    let P : List code.Leaf → Type 0 = λ made. All (λ (leaf : code.Leaf). leaf.place < length items) made in
    record {
      are = ap (map (leaf_in items)) c.push_reserved.ensures.items ∙ step (leaf_in items) _ c.deref-place-items.result.now c.loop-place.place-index _ _ c.loop-place.invariant.are
          (c.leaf_at.ensures.is
          ∙ ap (λ (ls : List ℕ). slice_get (leaves_from 0 ls items) (get_or c.deref-place-items.result.now c.loop-place.place-index 0)) c.deref-in-loop-place.ensures.value)
          (omega arith);
      within = subst P (sym c.push_reserved.ensures.items) (All-push (λ (leaf : code.Leaf). leaf.place < length items) c.loop-place.leaves.items c.leaf_at.result c.loop-place.invariant.within c.leaf_at.ensures.within);
      room =
          let r = c.loop-place.invariant.room in
          let n = c.push_reserved.ensures.len in
          let w = c.push_reserved.ensures.capacity in
          omega arith;
    }

all : (line : Line) (levels order places own : List ℕ) (aparts given : List (Option ℕ)) (i : ℕ) (made : List Leaf)
    → made ≡ filter_map (λ place. slice_get (leaves_from 0 levels line.items) place) (take i places) → length places ≤ i
    → places ≡ order → order ≡ visual_order own given → own ≡ levels → given ≡ aparts → aparts ≡ map (λ item. item.apart) line.items
    → levels ≡ levels_of line → made ≡ leaves line
unfolding leaves
all line levels order places own aparts given i made is le p q r s t u =
    let h : List ℕ → ℕ → Option Leaf = λ ls place. slice_get (leaves_from 0 ls line.items) place in
    is
    ∙ ap (filter_map (h levels)) (take_all i places le ∙ p ∙ q)
    ∙ ap (λ (ls : List ℕ). filter_map (h levels) (visual_order ls given)) r
    ∙ ap (λ (apart : List (Option ℕ)). filter_map (h levels) (visual_order levels apart)) (s ∙ t)
    ∙ ap (λ (ls : List ℕ). filter_map (h ls) (visual_order ls (map (λ (item : Item). item.apart) line.items))) u

pub returns-clause-are : goal.returns-clause-are
returns-clause-are g c =
    all (line_in c.args.frame.now (g.S.LineSource.items c.args.source.now)) _ _ _ _ _ _ _ _ c.loop-place.invariant.are c.loop-place-test.false c.deref-place-items.ensures.value c.in_ok-order.ensures.order c.deref.ensures.value c.deref-2.ensures.value c.in_ok-aparts.ensures.aparts c.in_ok-levels.ensures.levels

pub returns-clause-reach : goal.returns-clause-reach
returns-clause-reach g c =
    let P : List ℕ → Type 0 = λ levels. IsPermutation (range_with_len 0 (length levels)) c.in_ok-order.order.items in
    leaves_reach c.in_ok-levels.levels.items (g.S.LineSource.items c.args.source.now) c.in_ok-order.order.items c.deref-place-items.result.now c.loop-place.place-index _
    c.in_ok-levels.ensures.length
    (subst P c.deref.ensures.value c.in_ok-order.ensures.rearranged) c.loop-place.invariant.are c.loop-place-test.false c.deref-place-items.ensures.value
