use Rattle.reading.proofs.ManyLaws.{many_spells}
use Rattle.reading.proofs.laws.repetitions_spell.Goals as goal

pub returns : goal.returns
returns g c = λ test is. many_spells g.R.Rule.spells is
