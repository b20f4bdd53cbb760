use Rattle.reading.proofs.PlaceLaws.{no_further}
use Rattle.reading.proofs.laws.none_goes_further.Goals as goal

pub returns : goal.returns
returns g c = λ text later more rest next x stopped is ends. no_further g.R.Rule.spells g.met.R.PlacedRule.local text later more rest next x stopped is ends
