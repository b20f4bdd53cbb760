use Rattle.std.proofs.Common.{◌≡◌, ◌∙◌, ◌<◌, length, slice_index_or, subst, sym, ap, refl, arith}
use Rattle.std.specs.Prelude.{All}
use Rattle.fragment_types.specs.Item.{entry_of, entries_of}
use Rattle.para_prepare.specs.Flat.{HasBoundsIn, Rises}
use Rattle.para_prepare.specs.Views.{IsPlaced}
use Rattle.para_prepare.proofs.ContentLaws.{item_bytes, next_at, one_end_each, size_at}
use Rattle.para_prepare.proofs.FlatLaws.{same_flat}
use Rattle.para_prepare.proofs.FlatRuns.{kept_rises, laid_more, laid_none}
use Rattle.para_prepare.proofs.PlacedLaws.{placed_of}
use Rattle.para_prepare.proofs.flat.flat_lists.Goals as goal

pub invariant_of-made : goal.invariant_of-made
invariant_of-made g c =
    let none = c.in_ok-with_capacity.ensures.items in
    let few : length c.in_ok-with_capacity.field-0.items ≡ 0 = ap length none in
    record { bounds = subst (All HasBoundsIn) (sym none) (λ k d lt. absurd (omega arith)) }

pub loop-i-init : goal.loop-i-init
loop-i-init g c =
    let none = c.in_ok-with_capacity.ensures.items in
    let few : length c.in_ok-with_capacity.field-0.items ≡ 0 = ap length none in (
      laid_none _ (entries_of c.args.kept.now.items.now) c.deref-letters.result.now c.deref-ends.result.now _ (c.deref-letters.ensures.value ∙ c.args.kept.now.letters_are) (c.deref-ends.ensures.value ∙ c.args.kept.now.ends_are)
          (same_flat _ _ _ _ _ _ _ _ _ _ none c.in_ok-with_capacity-2.ensures.items c.in_ok-with_capacity-3.ensures.items refl refl),
      omega arith,
    )

pub bounds-ends-i : goal.bounds-ends-i
bounds-ends-i g c =
    let each = one_end_each c.args.kept.now.items.now c.deref-ends.result.now (c.deref-ends.ensures.value ∙ c.args.kept.now.ends_are) in
    let here = c.loop-i-test.true in
    omega arith

pub invariant_of-place : goal.invariant_of-place
invariant_of-place g c =
    let each = one_end_each c.args.kept.now.items.now c.deref-ends.result.now (c.deref-ends.ensures.value ∙ c.args.kept.now.ends_are) in
    let here = c.loop-i-test.true in
    let next = next_at _ c.args.kept.now.items.now c.loop-i.i c.loop-i.from c.index-items-i.result c.deref-letters.result.now c.deref-ends.result.now _ _ c.loop-i.invariant.0.cut here (omega arith) c.index-items-i.is in
    record {
      order = omega arith;
      within = next.within;
      bytes = item_bytes c.args.kept.now.items.now c.loop-i.i c.loop-i.from (slice_index_or c.deref-ends.result.now c.loop-i.i 0) c.index-items-i.result _ c.deref-letters.result.now next here c.index-items-i.is c.args.kept.now.bytes;
      rises = subst (Rises 0) (sym next.own) (kept_rises (entry_of c.index-items-i.result) _);
      placed = subst (All IsPlaced) (sym c.deref-letters.ensures.value) (placed_of c.args.kept.now.items.now c.args.kept.now.letters.items c.args.kept.now.letters_are c.args.kept.now.bytes);
    }

pub add_item-requires : goal.add_item-requires
add_item-requires g c = size_at c.args.kept.now.items.now c.loop-i.i c.index-items-i.result c.loop-i-test.true c.index-items-i.is c.args.kept.now.sizes

pub loop-i-preserved : goal.loop-i-preserved
loop-i-preserved g c =
    let each = one_end_each c.args.kept.now.items.now c.deref-ends.result.now (c.deref-ends.ensures.value ∙ c.args.kept.now.ends_are) in
    let here = c.loop-i-test.true in
    let ends_here : c.loop-i.i < length c.deref-ends.result.now = omega arith in
    let count = c.loop-i.invariant.1 in
    let more = c.in_ok-add_item.ensures.count in
    let next = next_at _ c.args.kept.now.items.now c.loop-i.i c.loop-i.from c.index-items-i.result c.deref-letters.result.now c.deref-ends.result.now _ _ c.loop-i.invariant.0.cut here (omega arith) c.index-items-i.is in
    let end_ = next.end_is in (
      laid_more _ c.args.kept.now.items.now c.loop-i.i c.loop-i.from c.index-items-i.result c.deref-letters.result.now c.deref-ends.result.now _ _ _ c.loop-i.invariant.0 here ends_here c.index-items-i.is c.in_ok-add_item.ensures.grown,
      omega arith,
    )
