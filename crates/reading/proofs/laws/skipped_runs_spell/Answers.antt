use Rattle.reading.proofs.PlacedLaws.{skip_spells}
use Rattle.reading.proofs.laws.skipped_runs_spell.Goals as goal

pub returns : goal.returns
returns c = λ test. skip_spells test
