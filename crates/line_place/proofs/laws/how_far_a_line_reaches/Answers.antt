use Rattle.line_place.proofs.SpreadLaws.{spread_of_line}
use Rattle.line_place.proofs.laws.how_far_a_line_reaches.Goals as goal

pub returns : goal.returns
returns c = spread_of_line
