use Rattle.html_tokens.proofs.CharacterLaws.{character_spells}
use Rattle.html_tokens.proofs.ReferenceLaws.{reference_spells}
use Rattle.html_tokens.proofs.laws.references_spell.Goals as goal

pub returns : goal.returns
returns c = record { characters = character_spells; references = reference_spells }
