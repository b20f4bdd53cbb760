use Rattle.reading.proofs.UpToLaws.{strip_sees, closing_sees}
use Rattle.reading.proofs.laws.ends_see_within.Goals as goal

pub returns : goal.returns
returns c = record { texts = λ text. strip_sees text; closings = λ opening word test last behind ends. closing_sees opening word test last behind ends }
