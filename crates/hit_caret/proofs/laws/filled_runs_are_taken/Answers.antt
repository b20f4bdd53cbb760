use Rattle.hit_caret.proofs.TileLaws.{filled_runs_are_taken}
use Rattle.hit_caret.proofs.laws.filled_runs_are_taken.Goals as goal

pub returns : goal.returns
returns c = filled_runs_are_taken
