use Rattle.box_limits.proofs.Judged.{documents_are_judged_by_lines}
use Rattle.box_limits.proofs.laws.documents_are_judged_by_lines.Goals as goal

pub returns : goal.returns
returns c = documents_are_judged_by_lines
