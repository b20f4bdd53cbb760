use Rattle.std.proofs.Common.{◌≡◌, ◌∙◌, ◌+ℤ◌, ◌-ℤ◌, arith, ap, w64, to_z, of_z}
use Rattle.std.proofs.lemmas.Int.{to_z-of_z}
use Rattle.line_fill.specs.Ahead.{is_within}
use Rattle.line_fill.proofs.Lengths.{held, gap_held}
use Rattle.line_fill.proofs.Reaching.{goes_then, goes_else, ahead_told, within_more}
use Rattle.line_fill.proofs.filling.Reach.goes_on.Goals as goal

pub returns-then-is_within : goal.returns-then-is_within
returns-then-is_within c =
    let told = ahead_told c.args.items.now c.args.self.now.aheads.items c.args.place c.index-ahead.result.now c.requires.within c.index-ahead.ensures c.requires.aheads in
    let start = c.place.ensures.value c.args.items.now c.requires.sums in
    let near = c.total-total.ensures.near in
    let given : to_z w64 (of_z w64 c.args.available) ≡ c.args.available = to_z-of_z w64 c.args.available c.ranges.available in
    goes_then c.args.items.now c.index-ahead.result.now c.args.from c.args.place c.args.available _ _ told.0 c.requires.order
    (c.is_within.ensures ∙ ap (is_within c.index-ahead.result.now.content _) given)
    (held c.total-total.result (omega arith) ∙ (c.total-total.ensures.value ∙ ap (λ p. p.edges +ℤ p.advances) start)) c.if-is_within.true

pub returns-else-is_within : goal.returns-else-is_within
returns-else-is_within c =
    let told = ahead_told c.args.items.now c.args.self.now.aheads.items c.args.place c.index-ahead.result.now c.requires.within c.index-ahead.ensures c.requires.aheads in
    let start = c.place.ensures.value c.args.items.now c.requires.sums in
    let content = c.content_end-content.ensures.value c.args.items.now c.requires.sums in
    let near = c.total-total.ensures.near in
    let close = c.content_end-content.ensures.near in
    let given : to_z w64 (of_z w64 c.args.available) ≡ c.args.available = to_z-of_z w64 c.args.available c.ranges.available in
    let total : to_z w64 (of_z w64 c.total-total.result) ≡ c.total-total.result = held c.total-total.result (omega arith) in
    goes_else c.args.items.now c.index-ahead.result.now c.args.from c.args.place c.args.available c.total-total.result _ c.is_within.result _ told.0 c.requires.order
    (c.is_within.ensures ∙ (ap (is_within c.index-ahead.result.now.content _) given ∙ ap (λ z. is_within c.index-ahead.result.now.content z c.args.available) total))
    (c.total-total.ensures.value ∙ ap (λ p. p.edges +ℤ p.advances) start) c.if-is_within.false
    (c.is_within-else-is_within.ensures ∙ ap (is_within c.index-ahead.result.now.spaces _) given)
    (gap_held c.total-total.result c.content_end-content.result.advances (omega arith) (omega arith) ∙ ap (λ p. c.total-total.result -ℤ p.advances) content)

pub is_within-requires-else-is_within-clause-length :
    goal.is_within-requires-else-is_within-clause-length
is_within-requires-else-is_within-clause-length c =
    let told = ahead_told c.args.items.now c.args.self.now.aheads.items c.args.place c.index-ahead.result.now c.requires.within c.index-ahead.ensures c.requires.aheads in
    within_more c.index-ahead.result.now.spaces told.1.spaces
