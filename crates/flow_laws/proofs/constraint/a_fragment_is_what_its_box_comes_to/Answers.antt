use Rattle.flow_laws.proofs.ConstraintLaws.{fragment_is_of_its_box}
use Rattle.flow_laws.proofs.constraint.a_fragment_is_what_its_box_comes_to.Goals as goal

pub returns : goal.returns
returns c = fragment_is_of_its_box
