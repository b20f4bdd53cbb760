use Rattle.std.proofs.Common.{ap, ap₂, ◌∙◌}
use Rattle.std.specs.Prelude.{map}
use Rattle.std.specs.List.{slice_range}
use Rattle.bidi_order.specs.Blanks.{reset}
use Rattle.para_prepare.specs.Inside.{seen_in_order}
use Rattle.para_prepare.proofs.InsideLaws.{inside_is}
use Rattle.para_prepare.proofs.inside.in_visual_order.Goals as goal

pub returns : goal.returns
returns c =
    c.in_ok-glyphs.ensures
    ∙ ap₂ (λ levels aparts. seen_in_order levels aparts (map (λ u. slice_range c.args.cut.letters.now u.first u.end) c.args.cut.units.now)) c.deref-4.ensures.value c.deref-5.ensures.value
    ∙ inside_is c.args.base c.args.cut.upright c.args.cut.letters.now c.args.cut.units.now c.in_ok-standings.standings.items c.in_ok-levels.levels.items c.in_ok-classes.classes.items c.in_ok-aparts.aparts.items
    c.in_ok-standings.ensures.standings c.in_ok-classes.ensures
    (c.in_ok-levels.ensures.levels ∙ ap₂ (λ standings classes. reset c.args.base (map (λ s. s.level) standings) classes) c.deref.ensures.value c.deref-2.ensures.value)
    (c.in_ok-aparts.ensures ∙ ap (map (λ s. s.apart)) c.deref-3.ensures.value)
