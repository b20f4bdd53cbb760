use Rattle.html_read.proofs.DocumentLaws.{fragments_are, fragment_ends}
use Rattle.html_read.proofs.laws.fragments_spell.Goals as goal

pub returns : goal.returns
returns c = record { spelled = λ text nodes. fragments_are text nodes; whole = λ text rest nodes e. fragment_ends text rest nodes e }
