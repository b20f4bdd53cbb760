use Rattle.std.specs.Prelude.{codes}
use Rattle.html_tokens.proofs.MiscPlaces.{bang_stops, misc_viable, misc_no_further}
use Rattle.html_tokens.proofs.laws.misc_stops_in_place.Goals as goal

pub returns : goal.returns
returns c = record {
  stops = (bang_stops, misc_viable (codes "<!"));
  no_further = λ text later more rest next e is ends. misc_no_further text later more rest next e is ends;
}
