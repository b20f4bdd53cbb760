use Rattle.css_types.proofs.Listed.{all_listed}
use Rattle.css_types.proofs.laws.all_are_listed.Goals as goal

pub returns : goal.returns
returns c = all_listed
