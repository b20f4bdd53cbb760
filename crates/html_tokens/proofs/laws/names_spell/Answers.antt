use Rattle.html_tokens.proofs.MiscLaws.{spaces_spells, name_spells, end_name_spells}
use Rattle.html_tokens.proofs.laws.names_spell.Goals as goal

pub returns : goal.returns
returns c = record { spaces = spaces_spells; names = name_spells; end_names = end_name_spells }
