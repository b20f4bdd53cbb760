use Rattle.std.proofs.Common.{◌∙◌, ◌+◌, ap, arith, map}
use Rattle.std.proofs.lemmas.List.{take_all}
use Rattle.line_place.specs.Line.{Item, item_of}
use Rattle.line_place.proofs.Lists.{map_more}
use Rattle.line_place.proofs.leaves.own_aparts.Goals as goal

pub loop-place-preserved : goal.loop-place-preserved
loop-place-preserved g c =
    let x : Item = item_of c.item.result in
    record {
      are = map_more (λ (item : Item). item.apart) (g.S.LineSource.items c.args.source.now) c.loop-place.place x c.loop-place.made.items _ (omega arith) (c.item.ensures x) c.push_reserved.ensures.items c.loop-place.invariant.are;
      room =
          let r = c.loop-place.invariant.room in
          let n = c.push_reserved.ensures.len in
          let w = c.push_reserved.ensures.capacity in
          omega arith;
    }

pub returns-clause-aparts : goal.returns-clause-aparts
returns-clause-aparts g c =
    c.loop-place.invariant.are ∙ ap (map (λ (item : Item). item.apart)) (take_all c.loop-place.place (g.S.LineSource.items c.args.source.now) (omega arith))
