use Rattle.reading.proofs.SpellLaws.{spells_before}
use Rattle.reading.proofs.UpToPlaces.{up_to_local, up_to_viable}
use Rattle.reading.proofs.laws.texts_up_to_stop_in_place.Goals as goal

pub returns : goal.returns
returns g c = record {
  local = λ lets within. up_to_local (spells_before g.R.Rule.spells (λ rest any. lets rest)) within;
  viable = λ lets within end_. up_to_viable (spells_before g.R.Rule.spells (λ rest any. lets rest)) within end_.more end_.value end_.is;
}
