use Rattle.std.proofs.Common.{rules, arith, ◌≡◌, ◌∙◌, sym, length, leb, true, false}
use Rattle.std.specs.Prelude.{slice_index}
use Rattle.bidi_order.proofs.BlockLaws.{one_passes, one_stops}
use Rattle.bidi_order.proofs.blocks.reverse_each.Goals.{then-not-reaches, else-not-reaches}
use Rattle.bidi_order.proofs.blocks.reverse_each.Goals as goal

pub loop-i-preserved : goal.loop-i-preserved
loop-i-preserved c =
    let levels = c.args.block.now.reach.levels.now in
    let level = c.args.block.now.reach.level in
    let places = c.loop-i.places in
    let i = c.loop-i.i in
    elim c.if-not-reaches.branch [
      | then-not-reaches w ↦
          let no : leb level (slice_index levels i) ≡ false = sym c.reaches.ensures ∙ search rules in
          let long : length w.reverse_part.new.places ≡ length places = w.reverse_part.auto.places in
          let many : length places ≡ length levels = c.loop-i.invariant.length in
          rw (w.places-is, w.start-is)
          (record {
            reversing = λ line on. one_stops levels level line places w.reverse_part.new.places c.loop-i.start i (c.loop-i.invariant.reversing line on) (omega arith) no w.reverse_part.ensures;
            begun = omega arith;
            length = long ∙ many;
          })
      | else-not-reaches w ↦
          let yes : leb level (slice_index levels i) ≡ true = sym c.reaches.ensures ∙ search rules in
          let begun = c.loop-i.invariant.begun in
          rw (w.places-is, w.start-is)
          (record {
            reversing = λ line on. one_passes levels level line places c.loop-i.start i (c.loop-i.invariant.reversing line on) (omega arith) yes;
            begun = omega arith;
            length = c.loop-i.invariant.length;
          })
    ]
