use Rattle.reading.proofs.UpToPlaces.{skip_local, skip_viable}
use Rattle.reading.proofs.laws.runs_stop_nowhere.Goals as goal

pub returns : goal.returns
returns c = record { local = λ test. skip_local test; viable = λ test. skip_viable test }
