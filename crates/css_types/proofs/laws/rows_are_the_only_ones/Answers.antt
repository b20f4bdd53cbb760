use Rattle.css_types.proofs.Listed.{only_rows}
use Rattle.css_types.proofs.laws.rows_are_the_only_ones.Goals as goal

pub returns : goal.returns
returns c = only_rows
