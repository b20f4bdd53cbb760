use Rattle.wm_chars.proofs.PairLaws.{mirrors_are_partners}
use Rattle.wm_chars.proofs.laws.mirrors_are_partners.Goals as goal

pub returns : goal.returns
returns c = mirrors_are_partners
