use Rattle.std.proofs.Common.{◌∙◌, ap}
use Rattle.css_types.specs.Rule.{rulings_of}
use Rattle.session.proofs.RuleEdits.{rulings_taken}
use Rattle.session.proofs.rules.take_among.Goals as goal

pub returns : goal.returns
returns c = ap rulings_of c.take_run.ensures ∙ rulings_taken c.args.index c.args.count c.args.rules.now.items
