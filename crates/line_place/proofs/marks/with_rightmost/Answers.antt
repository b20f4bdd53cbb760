use Rattle.std.proofs.Common.{◌∙◌, ap, sym, arith, map, ◌-◌, List, ℕ, drop, reverse, subst}
use Rattle.line_place.specs.Marks.{Mark, is_end_of, mark_of}
use Rattle.line_place.specs.Reach.{IsOfBox, Tells}
use Rattle.line_place.specs.declared.marks.Mark as code
use Rattle.line_place.proofs.MarkLaws.{of_box, right_back, right_more}
use Rattle.line_place.proofs.marks.with_rightmost.Goals as goal

pub at_right-requires : goal.at_right-requires
at_right-requires g c =
    let P : ℕ → Type 0 = λ n. IsOfBox n (mark_of c.index-marks-from.result) in
    subst P (sym c.loop-from.invariant.count) (of_box c.args.count (c.loop-from.from - 1) c.args.marks.now c.index-marks-from.result c.requires (omega arith) c.index-marks-from.is)

pub loop-from-preserved : goal.loop-from-preserved
loop-from-preserved g c =
    let P : List Mark → Type 0 = λ ms. Tells is_end_of c.at_right.new.ended.items ms in
    record {
      all =
          ap (λ (ms : List (code.Mark g.row.S.Denot)). reverse (map mark_of ms)) c.in_ok-push.ensures.items
          ∙ right_more c.args.marks.now c.loop-from.made.items c.loop-from.from c.index-marks-from.result c.at_right.result c.loop-from-test.true c.loop-from.invariant.within c.index-marks-from.is
          (c.at_right.ensures.mark (drop c.loop-from.from (map mark_of c.args.marks.now)) c.loop-from.invariant.tells) c.loop-from.invariant.all;
      tells =
          subst P (sym (right_back c.args.marks.now c.loop-from.from c.index-marks-from.result c.loop-from-test.true c.loop-from.invariant.within c.index-marks-from.is))
          (c.at_right.ensures.ended (drop c.loop-from.from (map mark_of c.args.marks.now)) c.loop-from.invariant.tells);
      count = c.at_right.ensures.same ∙ c.loop-from.invariant.count;
      within = omega arith;
    }
