use Rattle.std.proofs.Common.{ap, length, refl, subst, sym, arith}
use Rattle.std.proofs.lemmas.List.{length-map}
use Rattle.fragment_types.specs.Item.{entry_of}
use Rattle.para_prepare.specs.Whole.{AreSound}
use Rattle.para_prepare.proofs.PreparationLaws.{prepared_from}
use Rattle.para_prepare.proofs.WholeLaws.{is_prepared}
use Rattle.para_prepare.proofs.preparation.by_all_rules.Goals as goal

pub prepared_by-requires-clause-sound : goal.prepared_by-requires-clause-sound
prepared_by-requires-clause-sound g c =
    subst (AreSound c.deref-3.result.now) (sym c.deref-4.ensures.value) (subst (λ letters. AreSound letters c.in_ok-content.content.parts.items) (sym c.deref-3.ensures.value) c.in_ok-content.ensures.sound)

pub returns : goal.returns
returns g c =
    let count = c.in_ok-prepared.ensures.count in
    let parts = c.in_ok-content.ensures.count in
    let lent = ap length c.deref-4.ensures.value in
    let many = length-map c.args.kept.items.now entry_of in
    is_prepared _ c.args.paragraph.base c.args.paragraph.style.now _ _
    (prepared_from _ c.args.paragraph.base c.args.paragraph.style.now c.args.kept.items.now c.args.kept.items.now _ _ _ _ _ _ _ _ c.in_ok-prepared.prepared
    refl c.deref.ensures.value c.deref-3.ensures.value c.deref-2.ensures.value c.deref-4.ensures.value c.deref-5.ensures.value
    c.in_ok-content.ensures.parts c.in_ok-standings.ensures.standings c.in_ok-prepared.ensures.prepared)
    (omega arith) c.in_ok-prepared.ensures.lengths
