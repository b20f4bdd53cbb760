use Rattle.box_gen.proofs.ContainerLaws.{containers_stand_once}
use Rattle.box_gen.proofs.laws.containers_stand_once.Goals as goal

pub returns : goal.returns
returns c = containers_stand_once
