use Rattle.std.proofs.Common.{arith}
use Rattle.box_gen.specs.Building.{filling_of}
use Rattle.box_gen.proofs.Pieces.{popped}
use Rattle.box_gen.proofs.Puts.{stop_put}
use Rattle.box_gen.proofs.filling.Filling.stop.Goals as goal

pub returns : goal.returns
returns c =
    stop_put (filling_of c.args.self.now) _ c.args.node c.args.is_cut _ c.in_ok-put_item.ensures
    (popped c.pop.result c.args.self.now.opened.items c.pop.new.self.items c.pop.ensures.items (λ some. c.pop.ensures.variant.1 (omega (arith, some))))
