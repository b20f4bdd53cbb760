use Rattle.box_gen.proofs.PlaceLaws.{names_are_of_places}
use Rattle.box_gen.proofs.laws.names_are_of_places.Goals as goal

pub returns : goal.returns
returns c = names_are_of_places
