use Rattle.edit_job.proofs.OwedLaws.{all_owed}
use Rattle.edit_job.proofs.laws.all_are_owed_at_first.Goals as goal

pub returns : goal.returns
returns c = all_owed c.names_are_of_places.ensures c.boxes_are_of_elements.ensures
