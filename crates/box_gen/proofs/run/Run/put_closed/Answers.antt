use Rattle.std.proofs.Common.{◌∙◌, rules}
use Rattle.box_gen.specs.Building.{run_of}
use Rattle.box_gen.proofs.Pieces.{none_closed, one_closed}
use Rattle.box_gen.proofs.run.Run.put_closed.Goals as goal

pub loop-inline_box-preserved : goal.loop-inline_box-preserved
loop-inline_box-preserved c =
    one_closed (run_of c.loop-inline_box.self) (run_of c.put_item.new.self) c.loop-inline_box.inline_box-iterator.iter.rest.now c.next.new.self.iter.rest.now c.in-Some.inline_box.now
    (search rules) c.in_ok-put_item.ensures
    ∙ c.loop-inline_box.invariant

pub returns : goal.returns
returns c = none_closed (run_of c.loop-inline_box.self) _ c.loop-inline_box.inline_box-iterator.iter.rest.now (search rules) c.loop-inline_box.invariant
