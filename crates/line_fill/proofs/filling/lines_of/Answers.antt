use Rattle.std.proofs.Common.{◌≡◌, w64, to_z, of_z}
use Rattle.std.specs.Prelude.{pos, false}
use Rattle.std.proofs.lemmas.Int.{to_z-of_z}
use Rattle.fragment_types.specs.declared.breaking.Breaking.TheVariants.{No}
use Rattle.line_fill.specs.declared.item.FillItem.{FillItem}
use Rattle.line_fill.specs.Filling.{line_end}
use Rattle.line_fill.proofs.Lining.{Filled, filled_on}
use Rattle.line_fill.proofs.filling.lines_of.Goals as goal

plain : FillItem
plain = record { advance = pos 0; before = pos 0; after = pos 0; space = false; end = No }

pub loop-from-preserved : goal.loop-from-preserved
loop-from-preserved c =
    let given : to_z w64 (of_z w64 c.args.available) ≡ c.args.available = to_z-of_z w64 c.args.available c.ranges.available in
    let filled : Filled c.args.available c.args.items.now c.loop-from.ends.items c.loop-from.from = rw given at c.loop-from.invariant in
    let is : c.line_end-from.result ≡ line_end c.args.available c.args.items.now c.loop-from.from = rw given at c.line_end-from.ensures.value in
    rw given (filled_on c.args.available c.args.items.now c.loop-from.ends.items _ c.loop-from.from c.line_end-from.result plain c.loop-from-test.true is c.line_end-from.ensures.later c.line_end-from.ensures.within
    c.in_ok-push.ensures.items filled)
