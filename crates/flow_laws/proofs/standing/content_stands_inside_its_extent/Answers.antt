use Rattle.flow_laws.proofs.StandingLaws.{content_stands_inside}
use Rattle.flow_laws.proofs.standing.content_stands_inside_its_extent.Goals as goal

pub returns : goal.returns
returns c = content_stands_inside
