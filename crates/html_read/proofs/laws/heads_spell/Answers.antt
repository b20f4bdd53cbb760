use Rattle.html_read.proofs.HeadLaws.{head_spells}
use Rattle.html_read.proofs.laws.heads_spell.Goals as goal

pub returns : goal.returns
returns c = λ size. head_spells size
