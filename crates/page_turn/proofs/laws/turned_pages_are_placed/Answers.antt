use Rattle.page_turn.proofs.PageLaws.{are_placed}
use Rattle.page_turn.proofs.laws.turned_pages_are_placed.Goals as goal

pub returns : goal.returns
returns c = are_placed
