use Rattle.reading.proofs.PlacedLaws.{placed_choice, placed_before}
use Rattle.reading.proofs.laws.choices_spell_in_place.Goals as goal

pub returns : goal.returns
returns g c = λ test lets first second. placed_choice test (placed_before g.R.RuleInPlace.spells lets) g.S.RuleInPlace.spells first second
