use Rattle.reading.proofs.ClosingPlaces.{closing_local, closing_viable}
use Rattle.reading.proofs.laws.closings_stop_in_place.Goals as goal

pub returns : goal.returns
returns c = record {
  local = λ opening word test last. closing_local opening word test last;
  viable = λ opening word test last small. closing_viable opening word test last small;
}
