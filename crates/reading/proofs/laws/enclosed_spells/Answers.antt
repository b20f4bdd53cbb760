use Rattle.reading.proofs.SpellLaws.{between_spells}
use Rattle.reading.proofs.laws.enclosed_spells.Goals as goal

pub returns : goal.returns
returns g c = λ opening closing lets. between_spells opening closing g.R.Rule.spells lets
