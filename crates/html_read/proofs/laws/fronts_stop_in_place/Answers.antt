use Rattle.html_read.proofs.StopLaws.{prolog_stops, prolog_viable, prolog_no_further}
use Rattle.html_read.proofs.laws.fronts_stop_in_place.Goals as goal

pub returns : goal.returns
returns c = record {
  prologs = (prolog_stops, prolog_viable);
  no_prolog = λ text later more rest behind next byte e is parts other. prolog_no_further text later more rest behind next byte e is parts other;
}
