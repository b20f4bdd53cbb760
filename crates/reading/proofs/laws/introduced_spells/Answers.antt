use Rattle.reading.proofs.SpellLaws.{after_spells}
use Rattle.reading.proofs.laws.introduced_spells.Goals as goal

pub returns : goal.returns
returns g c = λ text. after_spells text g.R.Rule.spells
