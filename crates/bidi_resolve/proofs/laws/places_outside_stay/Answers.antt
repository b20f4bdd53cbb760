use Rattle.bidi_resolve.proofs.PlaceLaws.{outside}
use Rattle.bidi_resolve.proofs.laws.places_outside_stay.Goals as goal

pub returns : goal.returns
returns c = record {
  classes = λ chars levels run k d apart. outside run.places.items _ levels.class.items k d apart;
  levels = λ chars levels run k d apart. outside run.places.items _ levels.level.items k d apart;
}
