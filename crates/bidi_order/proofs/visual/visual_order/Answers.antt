use Rattle.std.proofs.Common.{◌∙◌, sym, subst, arith, ℕ, ◌<◌, List, length}
use Rattle.std.specs.Prelude.{All}
use Rattle.basic_laws.proofs.Lists.{range_below}
use Rattle.bidi_order.proofs.LevelZero.{stands}
use Rattle.bidi_order.proofs.Together.{together}
use Rattle.bidi_order.proofs.visual.visual_order.Goals as goal

pub returns-in_ok-places-clause-order : goal.returns-in_ok-places-clause-order
returns-in_ok-places-clause-order c = c.in_ok-places.ensures ∙ sym (stands c.args.levels.now c.args.aparts.now c.requires (omega arith))

pub returns-in_ok-places-clause-below : goal.returns-in_ok-places-clause-below
returns-in_ok-places-clause-below c =
    let P : List ℕ → Type 0 = λ places. All (λ p. p < length c.args.levels.now) places in
    subst P (sym c.in_ok-places.ensures) (range_below (length c.args.levels.now))

pub returns-in_ok-places-2-clause-order : goal.returns-in_ok-places-2-clause-order
returns-in_ok-places-2-clause-order c =
    together c.args.levels.now c.args.aparts.now c.in_ok-places-2.places.items c.requires (sym c.if-are_together.ensures) c.in_ok-places-2.ensures.order c.in_ok-places-2.ensures.below
