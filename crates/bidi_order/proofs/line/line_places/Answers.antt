use Rattle.std.proofs.Common.{◌∙◌, ◌<◌, ◌++◌, sym, ap, append_assoc, length, List, ℕ, arith}
use Rattle.bidi_order.proofs.LineLaws.{kept_more, within_more}
use Rattle.bidi_order.proofs.line.line_places.Goals as goal

pub loop-place-preserved : goal.loop-place-preserved
loop-place-preserved c =
    let before : c.loop-place.place < c.args.stop = c.loop-place-test.true in
    let inside : c.loop-place.place < length c.args.classes.now = omega arith in
    record {
      done = rw c.in_ok-keep.ensures (append_assoc c.loop-place.places.items _ _ ∙ ap (λ (l : List ℕ). c.loop-place.places.items ++ l) (sym (kept_more c.args.classes.now c.loop-place.place c.args.stop _ before c.requires.stop)) ∙ c.loop-place.invariant.done);
      within = rw c.in_ok-keep.ensures (within_more c.loop-place.places.items _ c.loop-place.place (length c.args.classes.now) inside c.loop-place.invariant.within);
    }
