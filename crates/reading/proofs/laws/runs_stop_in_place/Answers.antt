use Rattle.reading.proofs.RunPlaces.{run_of_local, run_of_viable}
use Rattle.reading.proofs.laws.runs_stop_in_place.Goals as goal

pub returns : goal.returns
returns c = record {
  local = λ test. run_of_local test;
  viable = λ test. run_of_viable test;
}
