use Rattle.reading.proofs.PlacedLaws.{placed_follow}
use Rattle.reading.proofs.laws.sequences_spell_in_place.Goals as goal

pub returns : goal.returns
returns g c = λ lets. placed_follow g.R.RuleInPlace.spells g.S.RuleInPlaceBehind.spells lets
