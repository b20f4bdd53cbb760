use Rattle.wm_chars.proofs.PairLaws.{brackets_are_partners}
use Rattle.wm_chars.proofs.laws.brackets_are_partners.Goals as goal

pub returns : goal.returns
returns c = brackets_are_partners
