use Rattle.hit_caret.proofs.TileLaws.{cells_tile_runs}
use Rattle.hit_caret.proofs.laws.cells_tile_runs.Goals as goal

pub returns : goal.returns
returns c = cells_tile_runs
