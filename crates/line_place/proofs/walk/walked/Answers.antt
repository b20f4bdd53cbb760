use Rattle.std.proofs.Common.{[], ◌∙◌, ◌+◌, ap, sym, arith, subst, List, length, map, drop, ℕ, ℤ}
use Rattle.std.proofs.lemmas.Int.{ints}
use Rattle.std.proofs.lemmas.List.{drop_all, length-map}
use Rattle.line_place.specs.Line.{line_in}
use Rattle.line_place.specs.Marks.{Mark, mark_of}
use Rattle.line_place.specs.Placing.{outermost, rows}
use Rattle.line_place.specs.Reach.{ArePaired, mark_reach, total}
use Rattle.line_place.specs.Walk.{whole}
use Rattle.line_place.proofs.Lengths.{held}
use Rattle.line_place.proofs.MarkLaws.{of_box}
use Rattle.line_place.proofs.SumLaws.{total_rest}
use Rattle.line_place.proofs.WalkLaws.{advance_near, at_the_end, in_box, next_mark}
use Rattle.line_place.proofs.walk.walked.Goals as goal

pub step-requires-clause-of_box : goal.step-requires-clause-of_box
step-requires-clause-of_box g c = of_box _ c.loop-mark.mark-index c.args.marks.now _ c.requires.marks.of_boxes c.loop-mark-test.true c.mark-item.is

pub step-requires-clause-in_box : goal.step-requires-clause-in_box
step-requires-clause-in_box g c = in_box _ c.loop-mark.mark-index c.args.marks.now _ c.requires.marks.in_boxes c.loop-mark-test.true c.mark-item.is

pub step-requires-clause-stands : goal.step-requires-clause-stands
step-requires-clause-stands g c =
    let P : List Mark → Type 0 = λ l. ArePaired (length c.loop-mark.walk.opened.items) l in
    (subst P (next_mark c.args.marks.now c.loop-mark.mark-index c.mark-item.result c.loop-mark-test.true c.mark-item.is) c.loop-mark.invariant.paired).0

pub step-requires-clause-mark : goal.step-requires-clause-mark
step-requires-clause-mark g c =
    let t = ap (total (mark_reach c.args.stage.now.frame.now.boxes.now)) (next_mark c.args.marks.now c.loop-mark.mark-index c.mark-item.result c.loop-mark-test.true c.mark-item.is) in
    let r = total_rest (mark_reach c.args.stage.now.frame.now.boxes.now) (map mark_of c.args.marks.now) c.loop-mark.mark-index in
    omega (arith, t, r, c.requires.reach)

pub step-requires-clause-at : goal.step-requires-clause-at
step-requires-clause-at g c =
    let t = ap (total (mark_reach c.args.stage.now.frame.now.boxes.now)) (next_mark c.args.marks.now c.loop-mark.mark-index c.mark-item.result c.loop-mark-test.true c.mark-item.is) in
    omega (arith, t, c.loop-mark.invariant.near)

pub loop-mark-preserved : goal.loop-mark-preserved
loop-mark-preserved g c =
    let d = next_mark c.args.marks.now c.loop-mark.mark-index c.mark-item.result c.loop-mark-test.true c.mark-item.is in
    let t = ap (total (mark_reach c.args.stage.now.frame.now.boxes.now)) d in
    let a = advance_near c.args.stage.now.frame.now.boxes.now (mark_of c.mark-item.result) in
    let P : List Mark → Type 0 = λ l. ArePaired (length c.loop-mark.walk.opened.items) l in
    let Q : ℕ → Type 0 = λ n. ArePaired n (drop (c.loop-mark.mark-index + 1) (map mark_of c.args.marks.now)) in
    record {
      whole = c.in_ok-step.ensures.whole (drop (c.loop-mark.mark-index + 1) (map mark_of c.args.marks.now))
          ∙ sym (ap (λ (l : List Mark). whole (line_in c.args.stage.now.frame.now []) (c.args.stage.now.over) c.loop-mark.walk l) d) ∙ c.loop-mark.invariant.whole;
      paired = subst Q (sym c.in_ok-step.ensures.count) (subst P d c.loop-mark.invariant.paired).1;
      opened = c.in_ok-step.ensures.opened;
      near = omega (arith, ints, t, a, c.in_ok-step.ensures.at, c.loop-mark.invariant.near);
    }

pub returns : goal.returns
returns g c =
    let l = length-map c.args.marks.now mark_of in
    let e = drop_all c.loop-mark.mark-index (map mark_of c.args.marks.now) (omega arith) in
    at_the_end (line_in c.args.stage.now.frame.now []) _ c.loop-mark.walk (drop c.loop-mark.mark-index (map mark_of c.args.marks.now)) e c.loop-mark.invariant.paired ∙ c.loop-mark.invariant.whole
    ∙ ap (λ (x : ℤ). outermost (rows (line_in c.args.stage.now.frame.now []) c.args.stage.now.over x (map mark_of c.args.marks.now))) (held c.args.at (omega (arith, c.requires.at)))
