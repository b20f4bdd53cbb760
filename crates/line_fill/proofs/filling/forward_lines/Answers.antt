use Rattle.std.proofs.Common.{◌≡◌, ◌<◌, arith, length, sym, subst, List, ℕ, w64, to_z, of_z}
use Rattle.std.specs.Prelude.{pos, false}
use Rattle.std.proofs.lemmas.Int.{to_z-of_z}
use Rattle.fragment_types.specs.declared.breaking.Breaking.TheVariants.{No}
use Rattle.line_fill.specs.declared.item.FillItem.{FillItem}
use Rattle.line_fill.specs.Filling.{line_end}
use Rattle.line_fill.proofs.Lining.{Filled, filled_first, filled_on}
use Rattle.line_fill.proofs.filling.forward_lines.Goals as goal

plain : FillItem
plain = record { advance = pos 0; before = pos 0; after = pos 0; space = false; end = No }

pub loop-stop-init : goal.loop-stop-init
loop-stop-init g c =
    let items : List FillItem = g.S.FillSource.items c.args.source.now in
    let P : List ℕ → Type 0 = λ ends. Filled (to_z w64 (of_z w64 c.args.available)) items ends 0 in
    record { filled = subst P (sym c.new-ends.ensures.items) (filled_first (to_z w64 (of_z w64 c.args.available)) items); told = c.first.ensures items }

pub loop-stop-preserved : goal.loop-stop-preserved
loop-stop-preserved g c =
    let items : List FillItem = g.S.FillSource.items c.args.source.now in
    let given : to_z w64 (of_z w64 c.args.available) ≡ c.args.available = to_z-of_z w64 c.args.available c.ranges.available in
    let filled : Filled c.args.available items c.loop-stop.ends.items c.loop-stop.stop.end = rw given at c.loop-stop.invariant.filled in
    let is : c.forward_end-stop.result.end ≡ line_end c.args.available items c.loop-stop.stop.end = rw given at c.forward_end-stop.ensures.value in
    let t = c.loop-stop-test.true in
    let n = c.count.ensures in
    let inside : c.loop-stop.stop.end < length items = omega (arith, t, n) in
    rw given (record {
      filled = filled_on c.args.available items c.loop-stop.ends.items _ c.loop-stop.stop.end c.forward_end-stop.result.end plain inside is c.forward_end-stop.ensures.later c.forward_end-stop.ensures.within
          c.in_ok-push.ensures.items filled;
      told = c.forward_end-stop.ensures.place;
    })
