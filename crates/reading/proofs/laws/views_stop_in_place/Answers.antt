use Rattle.reading.proofs.PlaceLaws.{mapped_local, mapped_viable}
use Rattle.reading.proofs.laws.views_stop_in_place.Goals as goal

pub returns : goal.returns
returns g c = record {
  local = λ view. mapped_local view g.met.R.PlacedRule.local;
  viable = λ view. mapped_viable view g.met.R.PlacedRule.viable;
}
