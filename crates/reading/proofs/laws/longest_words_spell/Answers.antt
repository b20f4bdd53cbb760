use Rattle.reading.proofs.WordLaws.{longest_word_spells}
use Rattle.reading.proofs.laws.longest_words_spell.Goals as goal

pub returns : goal.returns
returns g c = λ test words all d. longest_word_spells test words all d
