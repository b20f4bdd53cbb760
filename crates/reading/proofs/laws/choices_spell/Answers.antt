use Rattle.reading.proofs.SpellLaws.{choice_spells, spells_before}
use Rattle.reading.proofs.laws.choices_spell.Goals as goal

pub returns : goal.returns
returns g c = λ test lets first second. choice_spells test (spells_before g.R.Rule.spells lets) g.S.Rule.spells first second
