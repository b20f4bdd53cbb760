use Rattle.css_values.proofs.ComponentLaws.{value_spells}
use Rattle.css_values.proofs.DeclarationLaws.{declarations_spells}
use Rattle.css_values.proofs.laws.declarations_spell.Goals as goal

pub returns : goal.returns
returns c = record { values = λ within. value_spells within; declarations = λ within end_. declarations_spells within end_ }
