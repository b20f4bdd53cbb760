use Rattle.reading.proofs.PlaceLaws.{follow_local, follow_viable}
use Rattle.reading.proofs.laws.sequences_stop_in_place.Goals as goal

pub returns : goal.returns
returns g c = record {
  local = follow_local g.met.R.PlacedRule.local g.met.S.PlacedRuleBehind.local;
  viable = follow_viable g.R.Rule.spells g.met.R.PlacedRule.viable g.met.S.PlacedRuleBehind.viable g.met.S.PlacedRuleBehind.some;
}
