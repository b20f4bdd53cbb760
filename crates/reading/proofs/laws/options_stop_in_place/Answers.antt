use Rattle.reading.proofs.PlaceLaws.{optional_local, optional_viable}
use Rattle.reading.proofs.laws.options_stop_in_place.Goals as goal

pub returns : goal.returns
returns g c = record {
  local = λ test sees. optional_local sees g.met.R.PlacedRule.local;
  viable = λ test. optional_viable test g.met.R.PlacedRule.viable;
}
