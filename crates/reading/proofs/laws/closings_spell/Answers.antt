use Rattle.reading.proofs.UpToLaws.{closing_spells}
use Rattle.reading.proofs.laws.closings_spell.Goals as goal

pub returns : goal.returns
returns c = λ opening word test last behind ends. closing_spells opening word test last behind ends
