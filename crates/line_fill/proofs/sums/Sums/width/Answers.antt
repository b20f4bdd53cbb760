use Rattle.std.proofs.Common.{rules, arith, ◌≡◌, ◌∙◌, w64, FitsSigned}
use Rattle.std.proofs.lemmas.Int.{to_z-of_z}
use Rattle.line_fill.specs.Item.{width}
use Rattle.line_fill.proofs.Widths.{width_near}
use Rattle.line_fill.proofs.Summing.{width_told}
use Rattle.line_fill.proofs.sums.Sums.width.Goals as goal

pub returns-clause-width : goal.returns-clause-width
returns-clause-width c = λ items stand.
    let fits : FitsSigned w64 c.width.result = search rules in
    let within = c.requires.within in
    let count = stand.count in
    to_z-of_z w64 c.width.result fits ∙ width_told items c.args.from c.args.to _ _ _ _ c.requires.order (omega arith)
    (c.place-start.ensures.value items stand) (c.place-end.ensures.value items stand) (c.content_end.ensures.value items stand) c.width.ensures

pub returns-clause-near : goal.returns-clause-near
returns-clause-near c = λ items stand.
    let fits : FitsSigned w64 c.width.result = search rules in
    let within = c.requires.within in
    let count = stand.count in
    let is : c.width.result ≡ width items c.args.from c.args.to = width_told items c.args.from c.args.to _ _ _ _ c.requires.order (omega arith)
    (c.place-start.ensures.value items stand) (c.place-end.ensures.value items stand) (c.content_end.ensures.value items stand) c.width.ensures in
    rw (to_z-of_z w64 c.width.result fits) (rw is (width_near items c.args.from c.args.to))
