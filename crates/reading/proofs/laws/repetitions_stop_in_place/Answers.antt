use Rattle.reading.proofs.TurnPlaces.{many_local, many_viable}
use Rattle.reading.proofs.laws.repetitions_stop_in_place.Goals as goal

pub returns : goal.returns
returns g c = record {
  local = λ test is sees. many_local g.R.Rule.spells is sees g.met.R.PlacedRule.local;
  viable = λ test. many_viable test g.R.Rule.spells g.met.R.PlacedRule.viable;
}
