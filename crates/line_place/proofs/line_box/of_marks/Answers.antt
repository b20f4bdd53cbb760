use Rattle.std.proofs.Common.{[], ◌≡◌, ◌≤◌, ◌^◌, ◌∙◌, ap, arith, subst, sym, unsigned_abs, map, ℤ, to_z, of_z, w64}
use Rattle.std.specs.Int.{int_max}
use Rattle.std.specs.List.{flat_map, fold}
use Rattle.std.proofs.lemmas.Int.{ints}
use Rattle.line_place.specs.Line.{line_in}
use Rattle.line_place.specs.Marks.{mark_of}
use Rattle.line_place.specs.Placing as rule
use Rattle.line_place.proofs.Lengths.{held}
use Rattle.line_place.proofs.PlaceLaws.{over_close, under_close}
use Rattle.line_place.proofs.line_box.of_marks.Goals as goal

pub invariant_of-stage-clause-near : goal.invariant_of-stage-clause-near
invariant_of-stage-clause-near g c =
    let o : c.line_over-over.result ≡ fold int_max c.args.line.now.strut.over (flat_map (rule.over_of c.args.line.now.boxes.now) (map mark_of c.args.marks.now)) =
    c.line_over-over.ensures
    ∙ ap (λ (z : ℤ). fold int_max z (flat_map (rule.over_of c.args.line.now.boxes.now) (map mark_of c.args.marks.now))) (held c.args.line.now.strut.over (omega (arith, c.requires.strut))) in
    let k = over_close c.args.line.now.boxes.now (map mark_of c.args.marks.now) c.args.line.now.strut.over c.requires.marks.of_boxes c.requires.boxes (omega (arith, c.requires.reach)) (omega (arith, c.requires.strut)) in
    let h : unsigned_abs c.line_over-over.result ≤ 2 ^ 61 = omega (arith, ints, o, k) in
    let P : ℤ → Type 0 = λ z. unsigned_abs z ≤ 2 ^ 61 in
    subst P (sym (held c.line_over-over.result (omega (arith, h)))) h

pub returns-clause-over : goal.returns-clause-over
returns-clause-over g c =
    let o : c.line_over-over.result ≡ fold int_max c.args.line.now.strut.over (flat_map (rule.over_of c.args.line.now.boxes.now) (map mark_of c.args.marks.now)) =
    c.line_over-over.ensures
    ∙ ap (λ (z : ℤ). fold int_max z (flat_map (rule.over_of c.args.line.now.boxes.now) (map mark_of c.args.marks.now))) (held c.args.line.now.strut.over (omega (arith, c.requires.strut))) in
    let k = over_close c.args.line.now.boxes.now (map mark_of c.args.marks.now) c.args.line.now.strut.over c.requires.marks.of_boxes c.requires.boxes (omega (arith, c.requires.reach)) (omega (arith, c.requires.strut)) in
    held c.line_over-over.result (omega (arith, ints, o, k)) ∙ o

pub returns-clause-under : goal.returns-clause-under
returns-clause-under g c =
    let o : c.line_under-under.result ≡ fold int_max c.args.line.now.strut.under (flat_map (rule.under_of c.args.line.now.boxes.now) (map mark_of c.args.marks.now)) =
    c.line_under-under.ensures
    ∙ ap (λ (z : ℤ). fold int_max z (flat_map (rule.under_of c.args.line.now.boxes.now) (map mark_of c.args.marks.now))) (held c.args.line.now.strut.under (omega (arith, c.requires.strut))) in
    let k = under_close c.args.line.now.boxes.now (map mark_of c.args.marks.now) c.args.line.now.strut.under c.requires.marks.of_boxes c.requires.boxes (omega (arith, c.requires.reach)) (omega (arith, c.requires.strut)) in
    held c.line_under-under.result (omega (arith, ints, o, k)) ∙ o

pub returns-clause-near : goal.returns-clause-near
returns-clause-near g c =
    let o : c.line_over-over.result ≡ fold int_max c.args.line.now.strut.over (flat_map (rule.over_of c.args.line.now.boxes.now) (map mark_of c.args.marks.now)) =
    c.line_over-over.ensures
    ∙ ap (λ (z : ℤ). fold int_max z (flat_map (rule.over_of c.args.line.now.boxes.now) (map mark_of c.args.marks.now))) (held c.args.line.now.strut.over (omega (arith, c.requires.strut))) in
    let u : c.line_under-under.result ≡ fold int_max c.args.line.now.strut.under (flat_map (rule.under_of c.args.line.now.boxes.now) (map mark_of c.args.marks.now)) =
    c.line_under-under.ensures
    ∙ ap (λ (z : ℤ). fold int_max z (flat_map (rule.under_of c.args.line.now.boxes.now) (map mark_of c.args.marks.now))) (held c.args.line.now.strut.under (omega (arith, c.requires.strut))) in
    let k = over_close c.args.line.now.boxes.now (map mark_of c.args.marks.now) c.args.line.now.strut.over c.requires.marks.of_boxes c.requires.boxes (omega (arith, c.requires.reach)) (omega (arith, c.requires.strut)) in
    let l = under_close c.args.line.now.boxes.now (map mark_of c.args.marks.now) c.args.line.now.strut.under c.requires.marks.of_boxes c.requires.boxes (omega (arith, c.requires.reach)) (omega (arith, c.requires.strut)) in
    (omega (arith, ints, o, k), omega (arith, ints, u, l))

pub returns-clause-parts : goal.returns-clause-parts
returns-clause-parts g c =
    c.in_ok-parts.ensures
    ∙ ap (λ (x : ℤ). rule.outermost (rule.rows (line_in c.args.line.now []) (to_z w64 (of_z w64 c.line_over-over.result)) x (map mark_of c.args.marks.now)))
    (held c.content_start-at.result (omega (arith, c.content_start-at.ensures.near)) ∙ c.content_start-at.ensures.is)
