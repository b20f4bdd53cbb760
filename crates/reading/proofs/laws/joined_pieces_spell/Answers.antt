use Rattle.reading.proofs.ManyLaws.{joined_spells}
use Rattle.reading.proofs.laws.joined_pieces_spell.Goals as goal

pub returns : goal.returns
returns g c = λ test is. joined_spells g.R.TextRule.spells is
