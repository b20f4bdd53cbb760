use Rattle.reading.proofs.SpellLaws.{strip_spells}
use Rattle.reading.proofs.laws.texts_spell.Goals as goal

pub returns : goal.returns
returns c = λ text. strip_spells text
