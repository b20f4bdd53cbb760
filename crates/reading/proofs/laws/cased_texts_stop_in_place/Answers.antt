use Rattle.reading.proofs.RunPlaces.{either_case_local, either_case_viable}
use Rattle.reading.proofs.laws.cased_texts_stop_in_place.Goals as goal

pub returns : goal.returns
returns c = record {
  local = λ word. either_case_local word;
  viable = λ word small. either_case_viable word small;
}
