use Rattle.reading.proofs.RunLaws.{run_of_spells}
use Rattle.reading.proofs.laws.runs_spell.Goals as goal

pub returns : goal.returns
returns c = λ test. run_of_spells test
