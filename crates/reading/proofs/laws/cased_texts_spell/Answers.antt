use Rattle.reading.proofs.RunLaws.{either_case_spells}
use Rattle.reading.proofs.laws.cased_texts_spell.Goals as goal

pub returns : goal.returns
returns c = λ word. either_case_spells word
