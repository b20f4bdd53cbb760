use Rattle.std.proofs.Common.{rules, ◌≡◌, leb, length, slice_index, arith, sym, refl, ap, ◌∙◌, ℕ, Bool, List}
use Rattle.std.proofs.lemmas.List.Sorted.{length_permutation}
use Rattle.bidi_order.proofs.Levels.{reach_at}
use Rattle.bidi_order.proofs.Runs.{as_it_was, passes_more, stops_more, ends_rearranged}
use Rattle.bidi_order.proofs.reversals.reverse_level.Goals.{then-not-reaches, else-not-reaches}
use Rattle.bidi_order.proofs.reversals.reverse_level.Goals as goal

pub reaches-requires : goal.reaches-requires
reaches-requires c =
    let many : length c.loop-i.places ≡ length c.args.places.now = length_permutation _ _ c.loop-i.invariant.rearranged in
    let own : length c.args.places.now ≡ length c.args.reach.now.levels.now = c.requires.many in
    omega arith

pub loop-i-preserved : goal.loop-i-preserved
loop-i-preserved c =
    let passes : ℕ → Bool = λ p. leb c.args.reach.now.level (slice_index c.args.reach.now.levels.now p) in
    let old : List ℕ = c.args.places.now in
    let i = c.loop-i.i in
    let x : ℕ = slice_index c.loop-i.places i in
    let many : length c.loop-i.places ≡ length old = length_permutation _ _ c.loop-i.invariant.rearranged in
    let own : length old ≡ length c.args.reach.now.levels.now = c.requires.many in
    let here : passes x ≡ leb c.args.reach.now.level (slice_index c.args.reach.now.levels.now i) =
    ap passes (as_it_was passes old c.loop-i.places c.loop-i.start i x 0 c.loop-i.invariant (omega arith) refl)
    ∙ reach_at c.args.reach.now.levels.now c.args.reach.now.level old i own (omega arith) c.requires.reach in
    elim c.if-not-reaches.branch [
      | then-not-reaches w ↦
          rw (w.places-is, w.start-is)
          (stops_more passes old c.loop-i.places c.loop-i.start i x 0 c.loop-i.invariant (omega arith) refl (here ∙ sym c.reaches.ensures ∙ search rules) w.reverse_part.new.places w.reverse_part.ensures)
      | else-not-reaches w ↦
          rw (w.places-is, w.start-is)
          (passes_more passes old c.loop-i.places c.loop-i.start i x 0 c.loop-i.invariant (omega arith) refl (here ∙ sym c.reaches.ensures ∙ search rules))
    ]

pub returns-clause-rearranged : goal.returns-clause-rearranged
returns-clause-rearranged c =
    ends_rearranged (λ p. leb c.args.reach.now.level (slice_index c.args.reach.now.levels.now p)) c.args.places.now c.loop-i.places c.loop-i.start c.loop-i.i c.loop-i.invariant (omega arith) c.reverse_part-2.new.places (search rules)
