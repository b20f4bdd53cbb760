use Rattle.edit_script.proofs.FittingLaws.{bring_no_more}
use Rattle.edit_script.proofs.laws.scripts_bring_no_more.Goals as goal

pub returns : goal.returns
returns c = bring_no_more c.texts_are_of_the_repertoire.ensures.shorter c.texts_stand_apart.ensures.fragment_bytes
