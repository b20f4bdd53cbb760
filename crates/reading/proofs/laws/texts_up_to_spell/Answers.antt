use Rattle.reading.proofs.UpToLaws.{up_to_spells}
use Rattle.reading.proofs.laws.texts_up_to_spell.Goals as goal

pub returns : goal.returns
returns g c = λ within. up_to_spells g.R.Rule.spells within
