use Rattle.para_prepare.proofs.InsideLaws.{places_fit}
use Rattle.para_prepare.proofs.inside.seen_in_order.Goals as goal

pub glyphs_of-requires-clause-order : goal.glyphs_of-requires-clause-order
glyphs_of-requires-clause-order c = places_fit c.args.levels.now c.args.cut.units.now _ _ c.deref.ensures.value c.in_ok-order.ensures.below c.requires.levels
