use Rattle.std.proofs.lemmas.Result.{err_from_is_err_and}
use Rattle.std.proofs.Common.{◌∙◌, ap, subst}
use Rattle.style_types.specs.Tree.{Nodes}
use Rattle.box_gen.specs.Boxes.{root_boxes}
use Rattle.box_gen.specs.Limit.{IsWithinLimits, Passes}
use Rattle.session.specs.Kept.{ArePositions}
use Rattle.session.proofs.boxes.boxes_in.Goals as goal

pub returns-in_err-check_boxes-clause-makes : goal.returns-in_err-check_boxes-clause-makes
returns-in_err-check_boxes-clause-makes c =
    let p = err_from_is_err_and c.from_residual-in_err-check_boxes.result c.from_residual-in_err-check_boxes.ensures.1 in
    rw (p.1, p.2) (subst (λ (nodes : Nodes). Passes nodes c.in_err-check_boxes.field-0.0) c.in_ok-root.ensures.styled c.in_err-check_boxes.ensures)

pub returns-clause-makes : goal.returns-clause-makes
returns-clause-makes c = (
  subst IsWithinLimits c.in_ok-root.ensures.styled c.in_ok-check_boxes.ensures,
  c.in_ok-made.ensures.boxes ∙ ap root_boxes c.in_ok-root.ensures.styled,
  subst (ArePositions c.in_ok-made.made.positions) c.in_ok-root.ensures.styled c.in_ok-made.ensures.positions,
)
