use Rattle.cascade.specs.Winners.{claims_of}
use Rattle.cascade.proofs.Greatest.{best_goes_on_at, best_ends}
use Rattle.cascade.proofs.winning.put_best.Goals as goal

pub loop-claim-preserved : goal.loop-claim-preserved
loop-claim-preserved c =
    best_goes_on_at c.args.mode c.args.dir c.args.claims.now c.loop-claim.claim-index _ c.page_property.result c.place-place.result c.loop-claim.best c.greater_if.result
    c.loop-claim-test.true c.page_property.ensures.page c.place-place.ensures.place c.place-place.ensures.below c.greater_if.ensures c.loop-claim.invariant

pub returns : goal.returns
returns c = best_ends c.args.mode c.args.dir c.args.claims.now c.loop-claim.claim-index (claims_of c.loop-claim.best) c.loop-claim-test.false c.loop-claim.invariant
