use Rattle.box_arena.proofs.NamedOnce.{planted_named_once}
use Rattle.box_arena.proofs.laws.planted_boxes_are_named_once.Goals as goal

pub returns : goal.returns
returns g c = planted_named_once
