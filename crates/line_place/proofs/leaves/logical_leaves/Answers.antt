use Rattle.std.proofs.Common.{◌∙◌, ◌+◌, ◌++◌, ◌<◌, ap, arith, length, subst, sym, List, map, drop}
use Rattle.std.specs.List.{All}
use Rattle.std.proofs.lemmas.List.Elements.{All-push}
use Rattle.line_place.specs.declared.leaves.Leaf as code
use Rattle.line_place.specs.Line.{Item, no_item}
use Rattle.line_place.specs.Leaves.{leaf_in, leaves_from}
use Rattle.line_place.proofs.LevelZero.{one_more}
use Rattle.line_place.proofs.leaves.logical_leaves.Goals as goal

pub loop-place-preserved : goal.loop-place-preserved
loop-place-preserved g c =
    let items : List Item = g.S.LineSource.items c.args.source.now in
    let i = c.loop-place.place in
    let P : List code.Leaf → Type 0 = λ made. All (λ (leaf : code.Leaf). leaf.place < length items) made in
    record {
      are =
          ap (λ (made : List code.Leaf). map (leaf_in items) made ++ leaves_from (i + 1) (drop (i + 1) (map (λ (item : Item). item.level) items)) (drop (i + 1) items)) c.push_reserved.ensures.items
          ∙ one_more items i _ c.loop-place.leaves.items _ (omega arith) (c.requires i no_item (omega arith)) (c.hanging_from-hanging.ensures.is i (omega arith)) c.loop-place.invariant.are;
      within = subst P (sym c.push_reserved.ensures.items) (All-push (λ (leaf : code.Leaf). leaf.place < length items) c.loop-place.leaves.items _ c.loop-place.invariant.within (omega arith));
      room =
          let r = c.loop-place.invariant.room in
          let n = c.push_reserved.ensures.len in
          let w = c.push_reserved.ensures.capacity in
          omega arith;
    }
