use Rattle.session.proofs.Near.{spread_is_near}
use Rattle.session.proofs.laws.what_does_not_spread_is_near.Goals as goal

pub returns : goal.returns
returns c = spread_is_near
