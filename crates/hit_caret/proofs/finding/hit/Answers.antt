use Rattle.std.proofs.Common.{arith, to_z, of_z, w64}
use Rattle.std.proofs.lemmas.Int.{ints}
use Rattle.place_map.specs.Placed.{placed_of}
use Rattle.hit_caret.specs.Cells.{cells}
use Rattle.hit_caret.proofs.Visits.{hit_seen}
use Rattle.hit_caret.proofs.finding.hit.Goals as goal

pub returns : goal.returns
returns c =
    hit_seen c.args.x c.args.y (to_z w64 (of_z w64 c.args.x)) (to_z w64 (of_z w64 c.args.y)) (cells (placed_of c.args.placed.now)) c.visit_cells.new.visitor
    (omega (arith, ints)) (omega (arith, ints)) c.visit_cells.ensures
