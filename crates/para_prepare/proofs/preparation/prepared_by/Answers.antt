use Rattle.std.proofs.Common.{◌≤◌, length, subst, sym}
use Rattle.std.specs.Prelude.{All}
use Rattle.para_prepare.specs.Parts.{raws}
use Rattle.para_prepare.specs.Preparation.{HasBounds}
use Rattle.para_prepare.specs.Views.{parts_of}
use Rattle.para_prepare.proofs.PreparationLaws.{preparation_is, whole}
use Rattle.para_prepare.proofs.SourceLaws.{few_items, sized}
use Rattle.para_prepare.proofs.preparation.prepared_by.Goals as goal

pub invariant_of-result : goal.invariant_of-result
invariant_of-result c =
    whole (raws (parts_of c.args.letters.now c.args.parts.now)) c.args.standings.now _ _ _ _ _
    (record {
      items_are = c.in_ok-items.ensures;
      levels_are = c.in_ok-levels.ensures;
      classes_are = c.in_ok-classes.ensures;
      bases_are = c.in_ok-bases.ensures;
      breaks_are = c.in_ok-breaks.ensures c.args.letters.now;
    })
    c.requires.count c.requires.bounds

pub returns-clause-prepared : goal.returns-clause-prepared
returns-clause-prepared c =
    preparation_is (raws (parts_of c.args.letters.now c.args.parts.now)) c.args.standings.now _ _ _ _ _
    (record {
      items_are = c.in_ok-items.ensures;
      levels_are = c.in_ok-levels.ensures;
      classes_are = c.in_ok-classes.ensures;
      bases_are = c.in_ok-bases.ensures;
      breaks_are = c.in_ok-breaks.ensures c.args.letters.now;
    })

pub returns-clause-count : goal.returns-clause-count
returns-clause-count c =
    subst (λ items. length items ≤ length c.args.parts.now) (sym c.in_ok-items.ensures) (few_items c.args.letters.now c.args.parts.now c.args.standings.now)

pub returns-clause-lengths : goal.returns-clause-lengths
returns-clause-lengths c =
    subst (All (λ item. HasBounds item.what)) (sym c.in_ok-items.ensures) (sized c.args.letters.now c.args.parts.now c.args.standings.now c.requires.sound.within c.requires.sound.sizes c.requires.sound.covered)
