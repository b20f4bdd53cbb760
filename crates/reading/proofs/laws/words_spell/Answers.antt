use Rattle.reading.proofs.WordLaws.{one_word_spells}
use Rattle.reading.proofs.laws.words_spell.Goals as goal

pub returns : goal.returns
returns g c = λ words d. one_word_spells words d
