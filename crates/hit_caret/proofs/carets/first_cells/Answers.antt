use Rattle.std.proofs.Common.{subst, sym, IfSome, Option}
use Rattle.place_map.specs.Placed.{placed_of, mode_of}
use Rattle.hit_caret.specs.Carets.{begins_at, ends_at}
use Rattle.hit_caret.specs.Cells.{cells}
use Rattle.hit_caret.specs.Near.{IsNearCell}
use Rattle.hit_caret.specs.declared.cells.Cell.{Cell}
use Rattle.hit_caret.proofs.Nearness.{find_near, near_cells}
use Rattle.hit_caret.proofs.Visits.{beginning_seen, ending_seen}
use Rattle.hit_caret.proofs.carets.first_cells.Goals as goal

pub returns-clause-beginning : goal.returns-clause-beginning
returns-clause-beginning c = beginning_seen c.args.node c.args.place (cells (placed_of c.args.placed.now)) c.visit_cells.new.visitor c.visit_cells.ensures

pub returns-clause-ending : goal.returns-clause-ending
returns-clause-ending c = ending_seen c.args.node c.args.place (cells (placed_of c.args.placed.now)) c.visit_cells.new.visitor c.visit_cells.ensures

pub returns-clause-near_beginning : goal.returns-clause-near_beginning
returns-clause-near_beginning c =
    let page = placed_of c.args.placed.now in
    subst (λ (o : Option Cell). IfSome o (λ c. IsNearCell c.rect)) (sym (beginning_seen c.args.node c.args.place (cells page) c.visit_cells.new.visitor c.visit_cells.ensures))
    (find_near (begins_at c.args.node c.args.place) (cells page) (near_cells (mode_of page) page.parts c.requires.near))

pub returns-clause-near_ending : goal.returns-clause-near_ending
returns-clause-near_ending c =
    let page = placed_of c.args.placed.now in
    subst (λ (o : Option Cell). IfSome o (λ c. IsNearCell c.rect)) (sym (ending_seen c.args.node c.args.place (cells page) c.visit_cells.new.visitor c.visit_cells.ensures))
    (find_near (ends_at c.args.node c.args.place) (cells page) (near_cells (mode_of page) page.parts c.requires.near))
