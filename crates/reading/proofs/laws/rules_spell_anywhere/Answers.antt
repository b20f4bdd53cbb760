use Rattle.reading.proofs.PlacedLaws.{anywhere_spells}
use Rattle.reading.proofs.laws.rules_spell_anywhere.Goals as goal

pub returns : goal.returns
returns g c = anywhere_spells g.R.Rule.spells
