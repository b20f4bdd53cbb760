use Rattle.cascade.proofs.ReadSaid.{own_are_said, rules_are_said}
use Rattle.cascade.proofs.laws.what_is_read_is_said.Goals as goal

pub returns : goal.returns
returns c = record { rules = rules_are_said; own = own_are_said }
