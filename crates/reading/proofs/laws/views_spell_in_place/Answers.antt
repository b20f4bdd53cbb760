use Rattle.reading.proofs.PlacedLaws.{placed_mapped}
use Rattle.reading.proofs.laws.views_spell_in_place.Goals as goal

pub returns : goal.returns
returns g c = λ view. placed_mapped view g.R.RuleInPlace.spells
