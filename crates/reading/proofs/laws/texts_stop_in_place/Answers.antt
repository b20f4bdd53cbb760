use Rattle.reading.proofs.PlaceLaws.{strip_local, strip_viable}
use Rattle.reading.proofs.laws.texts_stop_in_place.Goals as goal

pub returns : goal.returns
returns c = record { local = λ text. strip_local text; viable = λ text. strip_viable text }
