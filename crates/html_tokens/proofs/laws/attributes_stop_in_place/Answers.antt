use Rattle.reading.proofs.StopPlaces.{goes_no_further_in_place}
use Rattle.html_tokens.proofs.AttributeLaws.{attributes_spells, tag_byte_next}
use Rattle.html_tokens.proofs.AttributePlaces.{attributes_stop}
use Rattle.html_tokens.proofs.AttributeFronts.{attributes_viable}
use Rattle.html_tokens.proofs.laws.attributes_stop_in_place.Goals as goal

pub returns : goal.returns
returns c = record {
  stops = attributes_stop;
  viable = attributes_viable;
  no_further = λ text later more rest next list e is ends. goes_no_further_in_place attributes_spells attributes_stop text later more rest next list e is (tag_byte_next rest ends);
}
