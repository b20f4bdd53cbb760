use Rattle.reading.proofs.DecimalLaws.{decimal_spells}
use Rattle.reading.proofs.laws.decimals_spell.Goals as goal

pub returns : goal.returns
returns c = λ most. decimal_spells most
