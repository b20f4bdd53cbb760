use Rattle.std.proofs.Common.{ap, ◌∙◌}
use Rattle.para_prepare.specs.Breaks.{breaks_of}
use Rattle.para_prepare.proofs.breaks.breaks.Goals as goal

pub returns : goal.returns
returns c = λ letters. c.in_ok-out.ensures ∙ ap breaks_of (c.deref.ensures.value ∙ c.in_ok-classes.ensures letters)
