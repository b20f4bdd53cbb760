use Rattle.cascade.proofs.Keys as keys
use Rattle.cascade.proofs.laws.keys_differ.Goals as goal

pub returns : goal.returns
returns c = keys.keys_differ
