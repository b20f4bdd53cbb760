use Rattle.std.proofs.Common.{ap, length, ◌∙◌}
use Rattle.std.specs.Str.{chars}
use Rattle.cluster_units.specs.Laws.{AreInOrder}
use Rattle.para_prepare.proofs.InsideLaws.{all_of, inside_whole}
use Rattle.para_prepare.proofs.PartsLaws.{order_of}
use Rattle.para_prepare.proofs.inside.inside.Goals as goal

pub invariant_of-cut : goal.invariant_of-cut
invariant_of-cut g c =
    let order : AreInOrder 0 (length c.args.letters.now) c.deref-2.result.now =
    order_of c.args.letters.now (chars c.deref.result.now) c.in_ok-units.units.items c.deref-2.result.now (ap chars c.deref.ensures ∙ c.in_ok-text.ensures.chars) c.deref-2.ensures.value c.in_ok-units.ensures.order in
    record { order = order; within = all_of 0 (length c.args.letters.now) c.deref-2.result.now order }

pub returns : goal.returns
returns g c =
    inside_whole _ c.args.style.now _ c.args.letters.now _ _ c.deref-2.result.now (chars c.deref.result.now) _ c.in_ok-glyphs.glyphs
    c.uncombined.ensures (ap chars c.deref.ensures ∙ c.in_ok-text.ensures.chars) (c.deref-2.ensures.value ∙ c.in_ok-units.ensures.units)
    c.sets_upright.ensures c.used_direction.ensures c.level_of-base.ensures.is c.in_ok-glyphs.ensures
