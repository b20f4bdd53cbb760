use Rattle.reading.proofs.TurnPlaces.{joined_local, joined_viable}
use Rattle.reading.proofs.laws.joined_pieces_stop_in_place.Goals as goal

pub returns : goal.returns
returns g c = record {
  local = λ test is sees. joined_local g.R.TextRule.spells is sees g.met.R.PlacedTextRule.local;
  viable = λ test. joined_viable test g.R.TextRule.spells g.met.R.PlacedTextRule.viable;
}
