use Rattle.rel_shift.proofs.Bounded.{sizes_suffice}
use Rattle.rel_shift.proofs.laws.sizes_of_boxes_suffice.Goals as goal

pub returns : goal.returns
returns c = sizes_suffice
