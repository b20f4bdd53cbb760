use Rattle.flow_laws.proofs.StandingLaws.{auto_is_as_content}
use Rattle.flow_laws.proofs.standing.a_block_size_that_is_not_definite_is_as_the_content.Goals as goal

pub returns : goal.returns
returns c = auto_is_as_content
