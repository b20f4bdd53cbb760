use Rattle.box_gen.specs.Building.{filling_of}
use Rattle.box_gen.proofs.Puts.{text_put}
use Rattle.box_gen.proofs.filling.Filling.put_text.Goals as goal

pub returns : goal.returns
returns c = text_put (filling_of c.args.self.now) _ c.args.node _ _ c.in_ok-put_text.ensures
