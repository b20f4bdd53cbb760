use Rattle.std.proofs.Common.{◌∙◌, ap}
use Rattle.bidi_resolve.specs.Neutral.{n2_class}
use Rattle.bidi_resolve.proofs.AloneLaws.{resolved_alone}
use Rattle.bidi_resolve.proofs.alone.alone.Goals as goal

pub returns : goal.returns
returns c =
    resolved_alone c.args.frame.level c.args.frame.sos c.args.frame.eos c.args.class c.weak_alone-weak.result c.n2_class.result c.weak_alone-weak.ensures
    (c.n2_class.ensures ∙ ap (n2_class c.args.frame.level) c.n1_class.ensures)
