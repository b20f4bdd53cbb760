use Rattle.std.proofs.Common.{arith, ◌≡◌, leb, length}
use Rattle.std.specs.Prelude.{slice_index}
use Rattle.bidi_order.proofs.BlockLaws.{long}
use Rattle.bidi_order.proofs.Runs.{ends_rearranged}
use Rattle.bidi_order.proofs.blocks.reverse_by_blocks.Goals as goal

pub returns-clause-rearranged : goal.returns-clause-rearranged
returns-clause-rearranged c =
    let levels = c.args.reach.now.levels.now in
    let on = c.loop-from.invariant.reversing in
    let many : length c.loop-from.places ≡ length levels = long levels c.args.reach.now.level c.args.places.now c.loop-from.places c.loop-from.start c.loop-from.from on in
    ends_rearranged (λ p. leb c.args.reach.now.level (slice_index levels p)) c.args.places.now c.loop-from.places c.loop-from.start c.loop-from.from on.2 (omega arith) c.reverse_part.new.places c.reverse_part.ensures
