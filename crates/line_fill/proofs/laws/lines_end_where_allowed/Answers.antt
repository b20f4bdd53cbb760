use Rattle.line_fill.proofs.LineLaws.{end_where_allowed}
use Rattle.line_fill.proofs.laws.lines_end_where_allowed.Goals as goal

pub returns : goal.returns
returns c = end_where_allowed
