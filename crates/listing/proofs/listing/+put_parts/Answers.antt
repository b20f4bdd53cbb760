use Rattle.std.proofs.Common.{◌++◌, ap, ◌∙◌, refl, arith}
use Rattle.place_map.specs.Parts.{parts_of}
use Rattle.place_map.proofs.PartLists.{fewer_below}
use Rattle.listing.specs.Listing.{lines}
use Rattle.listing.specs.TextStanding.{standing_inside}
use Rattle.listing.proofs.Trees.{below_broken, below_put, line_broken}
use Rattle.listing.proofs.listing.+put_parts.Goals as goal

pub returns-in_err-put_line-clause-front : goal.returns-in_err-put_line-clause-front
returns-in_err-put_line-clause-front g t c =
    let p = c.part-item.result in
    line_broken c.args.standing (standing_inside c.args.standing p.kind) c.args.parts.now c.loop-part.part-index c.part-item.result p.inner c.loop-part-test.true c.part-item.is refl refl
    (g.K.Sink.held c.args.sink.now) (g.K.Sink.held c.loop-part.sink) (g.K.Sink.held c.put_line.new.sink) (c.args.waiting.now ++ lines c.args.standing (parts_of c.args.parts.now)) c.loop-part.waiting c.loop-part.invariant.put c.in_err-put_line.ensures.front

pub put_parts-requires : goal.put_parts-requires
put_parts-requires g t c κs within = (
  omega (arith, fewer_below c.args.parts.now c.loop-part.part-index c.part-item.result c.loop-part-test.true c.part-item.is c.children.result.now c.children.ensures, c.decreases),
  within,
)

pub returns-in_err-put_parts-clause-front : goal.returns-in_err-put_parts-clause-front
returns-in_err-put_parts-clause-front g t c =
    below_broken c.args.standing c.standing_inside.result c.args.parts.now c.loop-part.part-index c.part-item.result (parts_of c.children.result.now) c.loop-part-test.true c.part-item.is (c.standing_inside.ensures ∙ ap (standing_inside c.args.standing) c.kind.ensures) c.children.ensures
    (g.K.Sink.held c.args.sink.now) (g.K.Sink.held c.loop-part.sink) (g.K.Sink.held c.put_line.new.sink) (c.args.waiting.now ++ lines c.args.standing (parts_of c.args.parts.now)) c.loop-part.waiting c.loop-part.invariant.put
    (g.K.Sink.held c.put_parts.new.sink) c.put_line.new.waiting c.in_ok-put_line.ensures.waits c.in_err-put_parts.ensures.front

pub loop-part-preserved : goal.loop-part-preserved
loop-part-preserved g t c = record {
  put =
      below_put c.args.standing c.standing_inside.result c.args.parts.now c.loop-part.part-index c.part-item.result (parts_of c.children.result.now) c.loop-part-test.true c.part-item.is (c.standing_inside.ensures ∙ ap (standing_inside c.args.standing) c.kind.ensures) c.children.ensures
      (g.K.Sink.held c.args.sink.now) (g.K.Sink.held c.loop-part.sink) (g.K.Sink.held c.put_line.new.sink) (c.args.waiting.now ++ lines c.args.standing (parts_of c.args.parts.now)) c.loop-part.waiting c.loop-part.invariant.put
      (g.K.Sink.held c.put_parts.new.sink) c.put_line.new.waiting c.in_ok-put_line.ensures.waits c.put_parts.new.waiting c.in_ok-put_parts.ensures.waits;
  later = omega (arith, c.loop-part.invariant.later, c.put_line.ensures.later, c.put_parts.ensures.later);
}
