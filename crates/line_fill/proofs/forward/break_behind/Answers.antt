use Rattle.std.proofs.Common.{◌∙◌, ap, sym, arith, List}
use Rattle.std.specs.Prelude.{pos, false}
use Rattle.fragment_types.specs.declared.breaking.Breaking.TheVariants.{No}
use Rattle.line_fill.specs.declared.item.FillItem.{FillItem}
use Rattle.line_fill.proofs.Ending.{break_inside}
use Rattle.line_fill.proofs.Reaching.{break_last}
use Rattle.line_fill.proofs.forward.break_behind.Goals as goal

plain : FillItem
plain = record { advance = pos 0; before = pos 0; after = pos 0; space = false; end = No }

pub returns-then-count-place : goal.returns-then-count-place
returns-then-count-place g c =
    let items : List FillItem = g.S.FillSource.items c.args.source.now in
    let last = c.if-count-place.true in
    let n = c.count.ensures in
    break_last items c.args.place plain c.requires.place (omega (arith, last, n))

pub returns-else-count-place : goal.returns-else-count-place
returns-else-count-place g c =
    let items : List FillItem = g.S.FillSource.items c.args.source.now in
    let more = c.if-count-place.false in
    let n = c.count.ensures in
    let lt = c.requires.place in
    ap (λ (item : FillItem). item.end) (c.requires.item plain) ∙ sym (break_inside items c.args.place plain (omega (arith, more, n, lt)))
