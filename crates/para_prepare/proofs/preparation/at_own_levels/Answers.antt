use Rattle.std.proofs.Common.{◌≡◌, ◌∙◌, ap, length, replicate, rules}
use Rattle.para_prepare.specs.Breaks.{breaks_of}
use Rattle.para_prepare.specs.Flat.{flat_of}
use Rattle.para_prepare.specs.Singles.{at_levels}
use Rattle.para_prepare.proofs.SinglesLaws.{own_whole}
use Rattle.para_prepare.proofs.preparation.at_own_levels.Goals as goal

pub invariant_of-result : goal.invariant_of-result
invariant_of-result c =
    let long : c.len.result ≡ length c.at_levels-items.result.items = search rules in
    own_whole (flat_of c.args.made) _ c.base_of-base.result c.in_ok-levels.levels.items _ _ c.requires.alike c.base_of-base.ensures.most
    (c.in_ok-levels.ensures.length ∙ ap length c.deref-4.ensures.value) c.in_ok-levels.ensures.between (c.at_levels-items.ensures ∙ ap (at_levels c.args.made.items.items) c.deref-5.ensures.value) (c.in_ok-bases.ensures ∙ ap (λ n. replicate n c.base_of-base.result) long) (c.in_ok-breaks.ensures ∙ ap breaks_of c.deref-6.ensures.value)
