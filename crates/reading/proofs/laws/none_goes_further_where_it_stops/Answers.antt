use Rattle.reading.proofs.StopPlaces.{goes_no_further}
use Rattle.reading.proofs.laws.none_goes_further_where_it_stops.Goals as goal

pub returns : goal.returns
returns g c = λ text later more rest next x stopped is ends. goes_no_further g.R.Rule.spells g.met.R.StoppingRule.stops text later more rest next x stopped is ends
