use Rattle.std.proofs.Common.{◌≡◌, drop, fold}
use Rattle.place_map.specs.Parts.{count, parts_of}
use Rattle.hit_caret.specs.Cells.{cells_in}
use Rattle.hit_caret.proofs.visiting.+visit_parts.Given as goal

-- the cells of the fragments so far are seen
abbrev pub invariant-loop-part : goal.invariant-loop-part
invariant-loop-part g l =
    fold g.V.CellVisitor.seen l.visitor (cells_in l.mode (parts_of (drop l.part-index l.parts))) ≡ fold g.V.CellVisitor.seen l.initial.visitor (cells_in l.mode (parts_of l.parts))

-- those inside a fragment are fewer
abbrev pub decreases-visit_parts : goal.decreases-visit_parts
decreases-visit_parts g l = count (parts_of l.parts.now)
