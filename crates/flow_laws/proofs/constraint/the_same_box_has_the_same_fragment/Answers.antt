use Rattle.flow_laws.proofs.ConstraintLaws.{same_box_same_fragment}
use Rattle.flow_laws.proofs.constraint.the_same_box_has_the_same_fragment.Goals as goal

pub returns : goal.returns
returns c = same_box_same_fragment
