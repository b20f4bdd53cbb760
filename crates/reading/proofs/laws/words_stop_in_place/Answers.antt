use Rattle.reading.proofs.WordPlaces.{one_word_local, one_word_viable}
use Rattle.reading.proofs.laws.words_stop_in_place.Goals as goal

pub returns : goal.returns
returns g c = record { local = λ word words d. one_word_local word words d; viable = λ word words. one_word_viable word words }
