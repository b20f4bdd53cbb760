use Rattle.box_gen.proofs.NameLaws.{boxes_are_named_once}
use Rattle.box_gen.proofs.laws.boxes_are_named_once.Goals as goal

pub returns : goal.returns
returns c = boxes_are_named_once
