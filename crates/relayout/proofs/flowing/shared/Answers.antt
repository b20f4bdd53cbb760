use Rattle.std.proofs.Common.{◌∙◌}
use Rattle.relayout.proofs.RowLaws.{moved_there}
use Rattle.relayout.proofs.flowing.shared.Goals as goal

pub returns : goal.returns
returns c = c.in_ok-own.ensures ∙ moved_there c.args.fragment.now
