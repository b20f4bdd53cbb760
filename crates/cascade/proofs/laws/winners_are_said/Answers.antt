use Rattle.cascade.proofs.SaidClaims.{line_said}
use Rattle.cascade.proofs.SameClaims.{winners_are_said}
use Rattle.cascade.proofs.laws.winners_are_said.Goals as goal

pub returns : goal.returns
returns c = record { winners = winners_are_said; lines = line_said }
