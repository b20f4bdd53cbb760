use Rattle.reading.proofs.SpellLaws.{telling_spells}
use Rattle.reading.proofs.laws.tellings_spell.Goals as goal

pub returns : goal.returns
returns g c = λ told. telling_spells told g.R.Rule.spells
