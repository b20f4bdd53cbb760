use Rattle.std.proofs.Common.{arith, inl, inr, sym, subst, ◌∙◌, ap, get_or}
use Rattle.std.proofs.lemmas.Bool.{cases_eq}
use Rattle.std.proofs.lemmas.List.{get_or_default}
use Rattle.fragment_types.specs.declared.item.Item.{Item}
use Rattle.check_paragraphs.specs.Bounds.{IsBoundedItem}
use Rattle.check_paragraphs.proofs.wholes.have_bounds.Goals as goal

pub loop-item-preserved : goal.loop-item-preserved
loop-item-preserved c = λ k d lt.
    elim (cases_eq k c.loop-item.item-index) [
      | inl e ↦ subst IsBoundedItem
          (c.item-item.is ∙ get_or_default c.args.items.now c.loop-item.item-index c.item-item.result d c.loop-item-test.true
          ∙ ap (λ j. get_or c.args.items.now j d) (sym e)) (c.has_bounds.ensures c.if-not-has_bounds.false)
      | inr n ↦ c.loop-item.invariant k d (omega (arith, n))
    ]
