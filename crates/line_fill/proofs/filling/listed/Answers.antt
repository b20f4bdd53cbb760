use Rattle.std.proofs.Common.{◌∙◌, ◌<◌, ◌∷◌, ◌++◌, [], ap, arith, sym, length, take, List}
use Rattle.std.proofs.lemmas.List.{take_more}
use Rattle.line_fill.specs.declared.item.FillItem.{FillItem}
use Rattle.line_fill.proofs.filling.listed.Goals as goal

pub loop-place-preserved : goal.loop-place-preserved
loop-place-preserved g c =
    let items : List FillItem = g.S.FillSource.items c.args.source.now in
    let t = c.loop-place-test.true in
    let n = c.count-place-end.ensures in
    let inside : c.loop-place.place < length items = omega (arith, t, n) in
    c.in_ok-push.ensures.items
    ∙ ap (λ (made : List FillItem). made ++ c.item.result ∷ []) c.loop-place.invariant
    ∙ ap (λ (item : FillItem). take c.loop-place.place items ++ item ∷ []) (c.item.ensures c.item.result)
    ∙ sym (take_more items c.loop-place.place c.item.result inside)
