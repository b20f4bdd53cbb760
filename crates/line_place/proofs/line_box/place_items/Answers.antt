use Rattle.std.proofs.Common.{◌≡◌, ◌∙◌, ap, sym, arith, subst, ◌*◌, ◌<◌, List, map, length, ℤ, ◌-ℤ◌}
use Rattle.std.specs.Int.{int_max}
use Rattle.std.specs.List.{All, flat_map, fold}
use Rattle.fragment_types.specs.Fragment.{Pieces}
use Rattle.line_place.specs.declared.leaves.Leaf as code_leaf
use Rattle.line_place.specs.declared.marks.Mark as code_mark
use Rattle.line_place.specs.Leaves.{Leaf, leaf_in, leaves}
use Rattle.line_place.specs.Line.{Line, line_in}
use Rattle.line_place.specs.Marks.{Mark, mark_of, marks_of}
use Rattle.line_place.specs.Placing as rule
use Rattle.line_place.specs.Reach.{AreInLimit, AreLineMarks, AreWithin, leaf_reach, line_reach, mark_reach, total}
use Rattle.line_place.proofs.AtomLaws.{marks_first}
use Rattle.line_place.proofs.EdgeLaws.{marks_reach}
use Rattle.line_place.proofs.FragmentLaws.{parts_in}
use Rattle.line_place.proofs.FrameLaws.{rows_in}
use Rattle.line_place.proofs.PlaceLaws.{leaves_within, marks_are, marks_in, marks_of_boxes, marks_paired, reached}
use Rattle.line_place.proofs.line_box.place_items.Goals as goal

made : {S : Type 0} (line : Line) (ls : List Leaf) (ms all : List (code_mark.Mark S)) → map mark_of ms ≡ marks_of line.boxes ls → all ≡ ms → ls ≡ leaves line
    → map mark_of all ≡ marks_of line.boxes (leaves line)
made line ls ms all is p s = ap (map mark_of) p ∙ is ∙ ap (marks_of line.boxes) s

pub of_list-leaves-requires : goal.of_list-leaves-requires
of_list-leaves-requires g c =
    let P : List code_leaf.Leaf → Type 0 = λ ls. All (λ (leaf : code_leaf.Leaf). leaf.place < length (g.S.LineSource.items c.args.source.now)) ls in
    subst P (sym c.deref.ensures.value) c.in_ok-list.ensures.within

pub marks-requires-clause-within : goal.marks-requires-clause-within
marks-requires-clause-within g c =
    let P : List Leaf → Type 0 = λ ls. AreWithin (length c.args.frame.now.boxes.now) ls in
    subst P (sym (c.of_list-leaves.ensures ∙ ap (map (leaf_in (g.S.LineSource.items c.args.source.now))) c.deref.ensures.value ∙ c.in_ok-list.ensures.are)) (leaves_within (length c.args.frame.now.boxes.now) (line_in c.args.frame.now (g.S.LineSource.items c.args.source.now)) c.requires.inside)

pub of_marks-requires-clause-marks : goal.of_marks-requires-clause-marks
of_marks-requires-clause-marks g c =
    let items = g.S.LineSource.items c.args.source.now in
    let ls : List Leaf = leaves (line_in c.args.frame.now items) in
    let within = leaves_within (length c.args.frame.now.boxes.now) (line_in c.args.frame.now items) c.requires.inside in
    let P : List Mark → Type 0 = λ ms. AreLineMarks (length c.args.frame.now.boxes.now) ms in
    subst P (sym (made (line_in c.args.frame.now items) _ _ _ c.in_ok-marks.ensures c.deref-2.ensures.value (c.of_list-leaves.ensures ∙ ap (map (leaf_in items)) c.deref.ensures.value ∙ c.in_ok-list.ensures.are)))
    (record {
      of_boxes = marks_of_boxes c.args.frame.now.boxes.now ls;
      in_boxes = marks_in c.args.frame.now.boxes.now ls within;
      atoms = marks_first c.args.frame.now.boxes.now ls;
      paired = marks_paired c.args.frame.now.boxes.now ls c.requires.nested within;
    })

pub of_marks-requires-clause-boxes : goal.of_marks-requires-clause-boxes
of_marks-requires-clause-boxes g c = reached c.args.frame.now.boxes.now (omega (arith, c.requires.reach))

pub of_marks-requires-clause-reach : goal.of_marks-requires-clause-reach
of_marks-requires-clause-reach g c =
    let t = ap (total (mark_reach c.args.frame.now.boxes.now)) (made (line_in c.args.frame.now (g.S.LineSource.items c.args.source.now)) _ _ _ c.in_ok-marks.ensures c.deref-2.ensures.value (c.of_list-leaves.ensures ∙ ap (map (leaf_in (g.S.LineSource.items c.args.source.now))) c.deref.ensures.value ∙ c.in_ok-list.ensures.are)) in
    let l = ap (total leaf_reach) c.in_ok-list.ensures.are in
    let r = marks_reach c.args.frame.now.boxes.now (leaves (line_in c.args.frame.now (g.S.LineSource.items c.args.source.now))) in
    omega (arith, t, l, r, c.in_ok-list.ensures.reach, c.requires.reach)

pub returns-clause-over : goal.returns-clause-over
returns-clause-over g c =
    let m = made (line_in c.args.frame.now (g.S.LineSource.items c.args.source.now)) _ _ _ c.in_ok-marks.ensures c.deref-2.ensures.value (c.of_list-leaves.ensures ∙ ap (map (leaf_in (g.S.LineSource.items c.args.source.now))) c.deref.ensures.value ∙ c.in_ok-list.ensures.are) ∙ sym (marks_are (line_in c.args.frame.now (g.S.LineSource.items c.args.source.now))) in
    c.in_ok-made.ensures.over ∙ ap (λ (ms : List Mark). fold int_max c.args.frame.now.strut.over (flat_map (rule.over_of c.args.frame.now.boxes.now) ms)) m

pub returns-clause-under : goal.returns-clause-under
returns-clause-under g c =
    let m = made (line_in c.args.frame.now (g.S.LineSource.items c.args.source.now)) _ _ _ c.in_ok-marks.ensures c.deref-2.ensures.value (c.of_list-leaves.ensures ∙ ap (map (leaf_in (g.S.LineSource.items c.args.source.now))) c.deref.ensures.value ∙ c.in_ok-list.ensures.are) ∙ sym (marks_are (line_in c.args.frame.now (g.S.LineSource.items c.args.source.now))) in
    c.in_ok-made.ensures.under ∙ ap (λ (ms : List Mark). fold int_max c.args.frame.now.strut.under (flat_map (rule.under_of c.args.frame.now.boxes.now) ms)) m

placed : goal.returns-clause-parts
placed g c =
    let m = made (line_in c.args.frame.now (g.S.LineSource.items c.args.source.now)) _ _ _ c.in_ok-marks.ensures c.deref-2.ensures.value (c.of_list-leaves.ensures ∙ ap (map (leaf_in (g.S.LineSource.items c.args.source.now))) c.deref.ensures.value ∙ c.in_ok-list.ensures.are) ∙ sym (marks_are (line_in c.args.frame.now (g.S.LineSource.items c.args.source.now))) in
    let o : c.in_ok-made.made.over ≡ rule.line_over (line_in c.args.frame.now (g.S.LineSource.items c.args.source.now)) =
    c.in_ok-made.ensures.over ∙ ap (λ (ms : List Mark). fold int_max c.args.frame.now.strut.over (flat_map (rule.over_of c.args.frame.now.boxes.now) ms)) m in
    c.in_ok-made.ensures.parts
    ∙ ap rule.outermost (rows_in c.args.frame.now (g.S.LineSource.items c.args.source.now) c.in_ok-made.made.over
    (rule.offset c.args.frame.now.align c.args.frame.now.base (c.args.frame.now.available -ℤ rule.width c.args.frame.now.boxes.now (map mark_of c.deref-2.result.now))) (map mark_of c.deref-2.result.now))
    ∙ ap (λ (x : ℤ). rule.outermost (rule.rows (line_in c.args.frame.now (g.S.LineSource.items c.args.source.now)) x
    (rule.offset c.args.frame.now.align c.args.frame.now.base (c.args.frame.now.available -ℤ rule.width c.args.frame.now.boxes.now (map mark_of c.deref-2.result.now))) (map mark_of c.deref-2.result.now))) o
    ∙ ap (λ (ms : List Mark). rule.outermost (rule.rows (line_in c.args.frame.now (g.S.LineSource.items c.args.source.now)) (rule.line_over (line_in c.args.frame.now (g.S.LineSource.items c.args.source.now)))
    (rule.offset c.args.frame.now.align c.args.frame.now.base (c.args.frame.now.available -ℤ rule.width c.args.frame.now.boxes.now ms)) ms)) m

pub returns-clause-parts : goal.returns-clause-parts
returns-clause-parts g c = placed g c

pub returns-clause-reach : goal.returns-clause-reach
returns-clause-reach g c own =
    let t = ap (total (mark_reach c.args.frame.now.boxes.now)) (marks_are (line_in c.args.frame.now (g.S.LineSource.items c.args.source.now))) in
    let l = ap (total leaf_reach) c.in_ok-list.ensures.are in
    let r = marks_reach c.args.frame.now.boxes.now (leaves (line_in c.args.frame.now (g.S.LineSource.items c.args.source.now))) in
    let P : Pieces → Type 0 = λ ps. AreInLimit (4 * line_reach (line_in c.args.frame.now (g.S.LineSource.items c.args.source.now))) ps in
    subst P (sym (placed g c)) (parts_in (line_in c.args.frame.now (g.S.LineSource.items c.args.source.now)) own c.requires.inside (omega (arith, t, l, r, c.in_ok-list.ensures.reach)))
