use Rattle.html_tokens.proofs.ValueLaws.{value_spells}
use Rattle.html_tokens.proofs.AttributeLaws.{attributes_spells, is_tag_next}
use Rattle.reading.proofs.PlacedLaws.{placed_before}
use Rattle.html_tokens.proofs.laws.attributes_spell.Goals as goal

pub returns : goal.returns
returns c = record { values = value_spells; attributes = placed_before attributes_spells (λ rest ends. is_tag_next rest ends.0 ends.1) }
