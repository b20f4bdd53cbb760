use Rattle.place_map.proofs.Bounds.{all_in, no_wider_self, no_wider_still, one_more}
use Rattle.place_map.proofs.placed.bound_of.Goals as goal

pub loop-part-init : goal.loop-part-init
loop-part-init c = record { own = no_wider_self c.args.own; parts = λ wider is_wider all. all }

pub loop-part-preserved : goal.loop-part-preserved
loop-part-preserved c = record {
  own = no_wider_still c.args.own c.loop-part.bound c.joined-bound.result c.loop-part.invariant.own c.joined-bound.ensures.own;
  parts =
      one_more c.args.parts.now c.loop-part.part-index c.part-item.result c.loop-part-test.true c.part-item.is c.loop-part.bound c.bound.result.now c.joined-bound.result c.loop-part.invariant.parts
      c.bound.ensures c.joined-bound.ensures.own c.joined-bound.ensures.other;
}

pub returns-clause-parts : goal.returns-clause-parts
returns-clause-parts c = all_in c.args.parts.now c.loop-part.part-index c.loop-part.bound c.loop-part-test.false c.loop-part.invariant.parts
