use Rattle.reading.proofs.PlaceLaws.{choice_local, choice_viable}
use Rattle.reading.proofs.laws.choices_stop_in_place.Goals as goal

pub returns : goal.returns
returns g c = record {
  local = λ test sees. choice_local sees g.met.R.PlacedRule.local g.met.S.PlacedRule.local;
  viable = λ test. choice_viable test g.met.R.PlacedRule.viable g.met.S.PlacedRule.viable;
}
