use Rattle.flow_modes.proofs.PageLaws.{styled_pages_are_turned}
use Rattle.flow_modes.proofs.laws.styled_pages_are_turned.Goals as goal

pub returns : goal.returns
returns c = styled_pages_are_turned
