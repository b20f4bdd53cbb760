use Rattle.box_gen.proofs.TextLaws.{texts_stand_once}
use Rattle.box_gen.proofs.laws.texts_stand_once.Goals as goal

pub returns : goal.returns
returns c = texts_stand_once
