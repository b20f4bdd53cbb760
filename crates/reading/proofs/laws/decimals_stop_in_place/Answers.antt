use Rattle.reading.proofs.DecimalLaws.{decimal_local, decimal_viable}
use Rattle.reading.proofs.laws.decimals_stop_in_place.Goals as goal

pub returns : goal.returns
returns c = record { local = λ more. decimal_local more; viable = λ more. decimal_viable more }
