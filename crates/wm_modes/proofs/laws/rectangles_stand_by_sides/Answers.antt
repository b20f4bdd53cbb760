use Rattle.wm_modes.proofs.MapLaws.{inline_start, block_start}
use Rattle.wm_modes.proofs.laws.rectangles_stand_by_sides.Goals as goal

pub returns : goal.returns
returns c = record { inline_start = inline_start; block_start = block_start }
