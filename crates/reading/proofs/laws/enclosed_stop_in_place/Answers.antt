use Rattle.reading.proofs.PlaceLaws.{between_local, between_viable}
use Rattle.reading.proofs.laws.enclosed_stop_in_place.Goals as goal

pub returns : goal.returns
returns g c = record {
  local = λ opening closing. between_local opening closing g.met.R.PlacedRule.local;
  viable = λ opening closing some. between_viable opening closing g.R.Rule.spells g.met.R.PlacedRule.viable some;
}
