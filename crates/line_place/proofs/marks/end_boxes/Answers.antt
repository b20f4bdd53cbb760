use Rattle.std.proofs.Common.{◌≡◌, ◌∙◌, ap, sym, arith, map, ◌++◌, List, [], ℕ, append-nil, Option, false}
use Rattle.std.proofs.lemmas.List.{map_push}
use Rattle.line_place.specs.declared.line.LineBox.{LineBox}
use Rattle.line_place.specs.Marks.{Mark, ends, left_behind, mark_of}
use Rattle.line_place.proofs.Chains.{the_one, the_other, within_place, more_before, one_ends, one_stays, other_begins, other_stays, nothing_left}
use Rattle.line_place.proofs.marks.end_boxes.Goals as goal

pub loop-place-preserved-then-is_place : goal.loop-place-preserved-then-is_place
loop-place-preserved-then-is_place g c =
    let d = the_one c.loop-place.one c.loop-place.other c.in-Some.place c.in-Some.ensures.deeper (sym c.if-is_place.ensures) in
    let lt = within_place c.loop-place.one c.in-Some.place _ c.loop-place.invariant.one d.0 in
    let pushed = ap (map mark_of) c.in_ok-push.ensures.items ∙ map_push mark_of c.loop-place.marks.items _ in
    record {
      ends =
          ap (λ (done : List Mark). done ++ map (λ q. ends q false) (left_behind c.args.boxes.now c.outer_of-one.result c.loop-place.other)) pushed
          ∙ one_ends c.args.boxes.now _ _ _ _ _ _ c.requires.nested lt d.0 d.1 c.outer_of-one.ensures.outer c.loop-place.invariant.ends;
      fresh = one_stays c.args.boxes.now _ _ _ _ _ _ c.requires.nested lt d.0 d.1 c.outer_of-one.ensures.outer c.loop-place.invariant.fresh;
      one = more_before c.outer_of-one.result c.in-Some.place _ c.outer_of-one.ensures.before (omega arith);
      other = c.loop-place.invariant.other;
    }

pub loop-place-preserved : goal.loop-place-preserved
loop-place-preserved g c =
    let d = the_other c.loop-place.one c.loop-place.other c.in-Some.place c.in-Some.ensures.deeper (sym c.if-is_place.ensures) in
    let lt = within_place c.loop-place.other c.in-Some.place _ c.loop-place.invariant.other d.0 in
    record {
      ends = other_stays c.args.boxes.now _ _ _ _ _ _ c.requires.nested lt d.0 d.1 c.outer_of-other.ensures.outer c.loop-place.invariant.ends;
      fresh =
          ap (λ (fresh : List ℕ). fresh ++ left_behind c.args.boxes.now c.outer_of-other.result c.loop-place.one) c.in_ok-push-2.ensures.items
          ∙ other_begins c.args.boxes.now _ _ _ _ _ _ c.requires.nested lt d.0 d.1 c.outer_of-other.ensures.outer c.loop-place.invariant.fresh;
      one = c.loop-place.invariant.one;
      other = more_before c.outer_of-other.result c.in-Some.place _ c.outer_of-other.ensures.before (omega arith);
    }

none_end : (boxes : List LineBox) (one other : Option ℕ) (done total : List Mark) → one ≡ other → done ++ map (λ q. ends q false) (left_behind boxes one other) ≡ total → done ≡ total
none_end boxes one other done total is all =
    let e : left_behind boxes one other ≡ [] = ap (left_behind boxes one) (sym is) ∙ nothing_left boxes one in
    sym (append-nil done) ∙ ap (λ (l : List ℕ). done ++ map (λ q. ends q false) l) (sym e) ∙ all

none_begin : (boxes : List LineBox) (one other : Option ℕ) (fresh total : List ℕ) → one ≡ other → fresh ++ left_behind boxes other one ≡ total → fresh ≡ total
none_begin boxes one other fresh total is all =
    let e : left_behind boxes other one ≡ [] = ap (left_behind boxes other) is ∙ nothing_left boxes other in
    sym (append-nil fresh) ∙ ap (λ (l : List ℕ). fresh ++ l) (sym e) ∙ all

pub returns-clause-ends : goal.returns-clause-ends
returns-clause-ends g c = none_end c.args.boxes.now _ _ _ _ c.in_default.ensures.same c.loop-place.invariant.ends

pub returns-clause-fresh : goal.returns-clause-fresh
returns-clause-fresh g c = none_begin c.args.boxes.now _ _ _ _ c.in_default.ensures.same c.loop-place.invariant.fresh
