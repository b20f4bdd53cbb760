use Rattle.std.proofs.Common.{◌∙◌, ap, sym, map, List, length, reverse, subst}
use Rattle.line_place.specs.Marks.{Mark, mark_of}
use Rattle.line_place.specs.Reach.{AreOfBoxes}
use Rattle.line_place.specs.declared.marks.Mark as code
use Rattle.line_place.proofs.MarkLaws.{of_boxes, of_right}
use Rattle.line_place.proofs.marks.marks.Goals as goal

pub with_rightmost-requires : goal.with_rightmost-requires
with_rightmost-requires g c =
    let P : List Mark → Type 0 = λ ms. AreOfBoxes (length c.args.boxes.now) ms in
    subst P (sym (ap (map mark_of) c.deref.ensures.value ∙ c.in_ok-bare.ensures)) (of_boxes c.args.boxes.now _ _)

pub with_leftmost-requires : goal.with_leftmost-requires
with_leftmost-requires g c =
    let P : List Mark → Type 0 = λ ms. AreOfBoxes (length c.args.boxes.now) ms in
    subst P (sym (ap (λ (ms : List (code.Mark g.row.S.Denot)). reverse (map mark_of ms)) c.deref-2.ensures.value ∙ c.in_ok-from_right.ensures))
    (of_right (length c.args.boxes.now) _ (subst P (sym (ap (map mark_of) c.deref.ensures.value ∙ c.in_ok-bare.ensures)) (of_boxes c.args.boxes.now _ _)))
