use Rattle.wm_chars.proofs.Ascending.{the_row_found}
use Rattle.wm_chars.proofs.laws.characters_stand_in_one_row.Goals as goal

pub returns : goal.returns
returns c = the_row_found
