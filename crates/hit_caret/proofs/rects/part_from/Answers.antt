use Rattle.std.proofs.Common.{arith}
use Rattle.std.proofs.lemmas.Int.{ints}
use Rattle.wm_modes.proofs.MapLaws.{rect_is}
use Rattle.wm_modes.specs.declared.sides.Side.TheVariants.{Bottom, Right}
use Rattle.hit_caret.specs.Rects.{part_from}
use Rattle.hit_caret.proofs.rects.part_from.Goals as goal

pub returns-in-Right-clause-value : goal.returns-in-Right-clause-value
returns-in-Right-clause-value c =
    rw c.in-Right.is (rect_is _ _ _ _ (part_from Right c.args.rect.now c.args.distance c.args.extent) (omega (arith, ints)) (omega (arith, ints)) (omega (arith, ints)) (omega (arith, ints)))

pub returns-in-Bottom-clause-value : goal.returns-in-Bottom-clause-value
returns-in-Bottom-clause-value c =
    rw c.in-Bottom.is (rect_is _ _ _ _ (part_from Bottom c.args.rect.now c.args.distance c.args.extent) (omega (arith, ints)) (omega (arith, ints)) (omega (arith, ints)) (omega (arith, ints)))
