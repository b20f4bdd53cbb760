use Rattle.page_modes.proofs.PageLaws.{documents_have_one_flow}
use Rattle.page_modes.proofs.laws.documents_have_one_flow.Goals as goal

pub returns : goal.returns
returns c = documents_have_one_flow
