use Rattle.html_tokens.proofs.TextLaws.{gap_spells}
use Rattle.html_tokens.proofs.laws.texts_spell.Goals as goal

pub returns : goal.returns
returns c = gap_spells
