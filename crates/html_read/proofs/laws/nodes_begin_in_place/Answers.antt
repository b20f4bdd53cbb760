use Rattle.html_read.proofs.PlaceLaws.{read_alike, places_found}
use Rattle.html_read.proofs.laws.nodes_begin_in_place.Goals as goal

pub returns : goal.returns
returns c = record { alike = read_alike; found = places_found }
