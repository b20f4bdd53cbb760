use Rattle.std.proofs.Common.{◌≡◌, ◌∙◌, ap, sym, arith, map, ◌++◌, ◌+◌, ◌-◌, ◌<◌, List, ℕ, take, drop, length, reverse, subst}
use Rattle.std.proofs.lemmas.List.{map_push}
use Rattle.line_place.specs.Marks.{Mark, is_begin_of, leftmost, mark_of}
use Rattle.line_place.specs.Reach.{IsOfBox, Tells}
use Rattle.line_place.proofs.MarkLaws.{from_right_there, left_front, left_more, length_from_right, of_at}
use Rattle.line_place.proofs.marks.with_leftmost.Goals as goal

pub at_left-requires : goal.at_left-requires
at_left-requires g c =
    let len = length_from_right c.args.from_right.now in
    let there = from_right_there c.args.from_right.now c.loop-left.left c.index-from_right-left.result c.loop-left-test.true c.loop-left.invariant.within c.index-from_right-left.is in
    let P : ℕ → Type 0 = λ n. IsOfBox n (mark_of c.index-from_right-left.result) in
    let Q : Mark → Type 0 = λ m. IsOfBox c.args.count m in
    subst P (sym c.loop-left.invariant.count)
    (subst Q there
    (of_at c.args.count (length c.args.from_right.now - c.loop-left.left) (reverse (map mark_of c.args.from_right.now)) (mark_of c.index-from_right-left.result) c.requires (omega arith)))

pub loop-left-preserved : goal.loop-left-preserved
loop-left-preserved g c =
    let marks = reverse (map mark_of c.args.from_right.now) in
    let k = length c.args.from_right.now - c.loop-left.left in
    let len = length_from_right c.args.from_right.now in
    let lt : k < length marks = omega arith in
    let next : length c.args.from_right.now - (c.loop-left.left - 1) ≡ k + 1 = omega arith in
    let there = from_right_there c.args.from_right.now c.loop-left.left c.index-from_right-left.result c.loop-left-test.true c.loop-left.invariant.within c.index-from_right-left.is in
    let P : List Mark → Type 0 = λ ms. Tells is_begin_of c.at_left.new.begun.items ms in
    record {
      all =
          ap (λ (n : ℕ). map mark_of c.push.new.self.items ++ leftmost (take n marks) (drop n marks)) next
          ∙ ap (λ (done : List Mark). done ++ leftmost (take (k + 1) marks) (drop (k + 1) marks)) (ap (map mark_of) c.in_ok-push.ensures.items ∙ map_push mark_of c.loop-left.made.items c.at_left.result)
          ∙ left_more marks k (mark_of c.index-from_right-left.result) _ _ _ lt there (c.at_left.ensures.mark (take k marks) c.loop-left.invariant.tells) c.loop-left.invariant.all;
      tells =
          subst P (sym (ap (λ (n : ℕ). take n marks) next ∙ left_front marks k (mark_of c.index-from_right-left.result) lt there)) (c.at_left.ensures.begun (take k marks) c.loop-left.invariant.tells);
      count = c.at_left.ensures.same ∙ c.loop-left.invariant.count;
      within = omega arith;
    }
