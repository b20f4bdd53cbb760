use Rattle.std.proofs.Common.{◌∙◌, ap, rules}
use Rattle.para_prepare.specs.Breaks.{breaks_of}
use Rattle.para_prepare.specs.Flat.{flat_of}
use Rattle.para_prepare.proofs.SinglesLaws.{zero_whole}
use Rattle.para_prepare.proofs.preparation.at_level_zero.Goals as goal

pub invariant_of-result : goal.invariant_of-result
invariant_of-result c = zero_whole (flat_of c.args.made) _ _ _ c.requires (search rules) (search rules) (c.in_ok-breaks.ensures ∙ ap breaks_of c.deref.ensures.value)
