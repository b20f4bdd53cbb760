use Rattle.line_fill.proofs.LineLaws.{divide_items}
use Rattle.line_fill.proofs.laws.lines_divide_the_items.Goals as goal

pub returns : goal.returns
returns c = divide_items
