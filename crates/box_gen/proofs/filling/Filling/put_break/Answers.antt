use Rattle.box_gen.specs.Building.{filling_of}
use Rattle.box_gen.proofs.Puts.{break_put}
use Rattle.box_gen.proofs.filling.Filling.put_break.Goals as goal

pub returns : goal.returns
returns c = break_put (filling_of c.args.self.now) _ c.args.node c.in_ok-put_item.ensures
