use Rattle.std.proofs.Common.{◌≡◌, ◌∙◌, sym, w64, to_z, of_z, ◌+◌}
use Rattle.std.specs.Prelude.{pos, false}
use Rattle.std.specs.List.{list_any}
use Rattle.fragment_types.specs.declared.breaking.Breaking.TheVariants.{No}
use Rattle.line_fill.specs.declared.item.FillItem.{FillItem}
use Rattle.std.proofs.lemmas.Int.{to_z-of_z}
use Rattle.line_fill.specs.Filling.{fits, ends}
use Rattle.line_fill.proofs.Ending.{Seeks, seeks_taken, seeks_on, seeks_past, seeks_ended, must_ends}
use Rattle.line_fill.proofs.filling.Reach.line_end.Goals.{in-No, in-May+else-not-goes_on}
use Rattle.line_fill.proofs.filling.Reach.line_end.Goals as goal

pub returns-then-not-goes_on-clause-value : goal.returns-then-not-goes_on-clause-value
returns-then-not-goes_on-clause-value c =
    let given : to_z w64 (of_z w64 c.args.available) ≡ c.args.available = to_z-of_z w64 c.args.available c.ranges.available in
    let seeks : Seeks c.args.available c.args.items.now c.args.from c.loop-place.place = rw given at c.loop-place.invariant in
    let none : c.goes_on.result ≡ list_any (fits c.args.available c.args.items.now c.args.from) (ends c.args.items.now (c.loop-place.place + 1)) = rw given at c.goes_on.ensures in
    sym (seeks_taken c.args.available c.args.items.now c.args.from c.loop-place.place _ c.loop-place-test.true c.in-May.is (sym none ∙ c.if-not-goes_on.true) seeks)

plain : FillItem
plain = record { advance = pos 0; before = pos 0; after = pos 0; space = false; end = No }

pub returns-in-Must-clause-value : goal.returns-in-Must-clause-value
returns-in-Must-clause-value c =
    let given : to_z w64 (of_z w64 c.args.available) ≡ c.args.available = to_z-of_z w64 c.args.available c.ranges.available in
    let seeks : Seeks c.args.available c.args.items.now c.args.from c.loop-place.place = rw given at c.loop-place.invariant in
    sym (seeks_ended c.args.available c.args.items.now c.args.from c.loop-place.place plain c.loop-place-test.true (must_ends c.args.items.now c.loop-place.place _ c.loop-place-test.true c.in-Must.is) seeks)

pub loop-place-preserved : goal.loop-place-preserved
loop-place-preserved c =
    let given : to_z w64 (of_z w64 c.args.available) ≡ c.args.available = to_z-of_z w64 c.args.available c.ranges.available in
    elim c.match-items-place.branch [
      | in-No w ↦ seeks_on _ c.args.items.now c.args.from c.loop-place.place _ c.loop-place-test.true w.in-No.is c.loop-place.invariant
      | in-May+else-not-goes_on w ↦
          let some : w.goes_on.result ≡ list_any (fits c.args.available c.args.items.now c.args.from) (ends c.args.items.now (c.loop-place.place + 1)) = rw given at w.goes_on.ensures in
          rw given (seeks_past c.args.available c.args.items.now c.args.from c.loop-place.place _ c.loop-place-test.true w.in-May.is (sym some ∙ w.if-not-goes_on.false) (rw given at c.loop-place.invariant))
    ]
