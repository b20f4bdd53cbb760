use Rattle.cluster_units.proofs.PlainUnits.{apart, of_characters}
use Rattle.cluster_units.proofs.laws.plain_units_are_of_characters.Goals as goal

pub returns-clause-units : goal.returns-clause-units
returns-clause-units c = of_characters

pub returns-clause-apart : goal.returns-clause-apart
returns-clause-apart c = apart
