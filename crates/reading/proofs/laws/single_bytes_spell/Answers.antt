use Rattle.reading.proofs.SpellLaws.{one_of_spells}
use Rattle.reading.proofs.laws.single_bytes_spell.Goals as goal

pub returns : goal.returns
returns c = λ test. one_of_spells test
