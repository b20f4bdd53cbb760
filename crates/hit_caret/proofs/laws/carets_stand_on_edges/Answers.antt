use Rattle.hit_caret.proofs.CaretLaws.{carets_stand_on_edges}
use Rattle.hit_caret.proofs.laws.carets_stand_on_edges.Goals as goal

pub returns : goal.returns
returns c = carets_stand_on_edges
