use Rattle.std.proofs.Common.{ap, length, ◌∙◌}
use Rattle.para_prepare.specs.BidiText.{bidi_texts}
use Rattle.para_prepare.specs.Boxes.{marked}
use Rattle.para_prepare.specs.Preparation.{container_of}
use Rattle.para_prepare.specs.Standing.{standings}
use Rattle.para_prepare.specs.Views.{parts_of}
use Rattle.para_prepare.proofs.PreparationLaws.{items_take_part, one_mark_each, takes_part}
use Rattle.para_prepare.proofs.preparation.standings_of.Goals as goal

pub standings-requires-clause-marks : goal.standings-requires-clause-marks
standings-requires-clause-marks c = one_mark_each c.args.parts.now _ (c.deref.ensures.value ∙ c.in_ok-marks.ensures)

pub returns-clause-standings : goal.returns-clause-standings
returns-clause-standings c =
    c.in_ok-out.ensures.standings
    ∙ ap (λ container. standings c.args.paragraph.base (bidi_texts container (marked c.deref.result.now (parts_of c.args.letters.now c.args.parts.now)))) c.container_of.ensures
    ∙ ap (λ taken. standings c.args.paragraph.base (bidi_texts (container_of c.args.paragraph.style.now) taken))
    (takes_part c.args.letters.now c.args.parts.now _ (c.deref.ensures.value ∙ c.in_ok-marks.ensures))

pub returns-clause-count : goal.returns-clause-count
returns-clause-count c =
    c.in_ok-out.ensures.count ∙ ap length (items_take_part c.args.letters.now c.args.parts.now _ (c.deref.ensures.value ∙ c.in_ok-marks.ensures))
