use Rattle.reading.proofs.SpellLaws.{optional_spells}
use Rattle.reading.proofs.laws.options_spell.Goals as goal

pub returns : goal.returns
returns g c = λ test first second. optional_spells test g.R.Rule.spells first second
