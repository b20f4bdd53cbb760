use Rattle.input_due.proofs.OneDue.{owe_once}
use Rattle.input_due.proofs.laws.inputs_owe_once.Goals as goal

pub returns : goal.returns
returns c = owe_once c.one_answer.ensures c.steps_owe_once.ensures
