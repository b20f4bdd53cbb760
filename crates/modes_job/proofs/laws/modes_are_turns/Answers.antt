use Rattle.modes_job.proofs.TurnLaws.{turns}
use Rattle.modes_job.proofs.laws.modes_are_turns.Goals as goal

pub returns : goal.returns
returns c = λ faces view rules state turnable. turns c.documents_have_one_flow.ensures faces view rules state turnable
