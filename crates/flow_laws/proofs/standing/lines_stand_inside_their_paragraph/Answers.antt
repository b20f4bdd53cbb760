use Rattle.flow_laws.proofs.StandingLaws.{lines_stand_inside}
use Rattle.flow_laws.proofs.standing.lines_stand_inside_their_paragraph.Goals as goal

pub returns : goal.returns
returns c = lines_stand_inside
