use Rattle.reading.proofs.SpellLaws.{mapped_spells}
use Rattle.reading.proofs.laws.views_spell.Goals as goal

pub returns : goal.returns
returns g c = λ view. mapped_spells view g.R.Rule.spells
