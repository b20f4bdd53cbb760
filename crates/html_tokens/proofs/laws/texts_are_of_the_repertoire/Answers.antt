use Rattle.html_tokens.proofs.GapTexts.{gap_of_repertoire, gap_shorter}
use Rattle.html_tokens.proofs.laws.texts_are_of_the_repertoire.Goals as goal

pub returns : goal.returns
returns c = record { repertoire = gap_of_repertoire; shorter = gap_shorter }
