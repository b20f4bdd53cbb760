use Rattle.relayout.proofs.SizedLaws.{layouts_are_sized}
use Rattle.relayout.proofs.laws.contents_have_sizes.Goals as goal

pub returns : goal.returns
returns c = layouts_are_sized
