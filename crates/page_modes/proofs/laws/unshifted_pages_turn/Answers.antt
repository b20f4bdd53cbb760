use Rattle.page_modes.proofs.PageLaws.{unshifted_pages_turn}
use Rattle.page_modes.proofs.laws.unshifted_pages_turn.Goals as goal

pub returns : goal.returns
returns c = unshifted_pages_turn
