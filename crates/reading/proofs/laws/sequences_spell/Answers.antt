use Rattle.reading.proofs.SpellLaws.{follow_spells}
use Rattle.reading.proofs.laws.sequences_spell.Goals as goal

pub returns : goal.returns
returns g c = λ lets. follow_spells g.R.Rule.spells g.S.RuleBehind.spells lets
