use Rattle.box_gen.proofs.PairLaws.{items_are_paired}
use Rattle.box_gen.proofs.laws.items_are_paired.Goals as goal

pub returns : goal.returns
returns c = items_are_paired
