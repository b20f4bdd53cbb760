use Rattle.input_due.proofs.OneDue.{one_due}
use Rattle.input_due.proofs.laws.inputs_have_one_due.Goals as goal

pub returns : goal.returns
returns c = one_due c.one_answer.ensures c.steps_have_an_end.ensures c.steps_have_one_end.ensures
