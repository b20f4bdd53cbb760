use Rattle.reading.proofs.PlaceLaws.{after_local, after_viable}
use Rattle.reading.proofs.laws.introduced_stop_in_place.Goals as goal

pub returns : goal.returns
returns g c = record {
  local = λ text. after_local text g.met.R.PlacedRule.local;
  viable = λ text some. after_viable text g.met.R.PlacedRule.viable some;
}
