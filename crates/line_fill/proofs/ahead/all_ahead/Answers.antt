use Rattle.std.proofs.Common.{◌∙◌, ap, arith}
use Rattle.line_fill.proofs.Lengths.{held}
use Rattle.line_fill.proofs.Reaching.{known_on}
use Rattle.line_fill.proofs.ahead.all_ahead.Goals as goal

pub loop-place-preserved : goal.loop-place-preserved
loop-place-preserved c =
    let near = c.place-next.ensures.near in
    let next = c.place-next.ensures.value c.args.items.now c.requires in
    known_on c.args.items.now c.loop-place.aheads.items _ c.loop-place.ahead c.with_end.result c.behind-ahead.result c.loop-place.place _ _ _ _ c.loop-place-test.true
    c.break_behind.ensures
    (held c.place-next.result.edges (omega arith) ∙ ap (λ p. p.edges) next) (held c.place-next.result.advances (omega arith) ∙ ap (λ p. p.advances) next)
    c.with_end.ensures.value c.behind-ahead.ensures.value c.behind-ahead.ensures.near c.in_ok-push-2.ensures.items c.loop-place.invariant
