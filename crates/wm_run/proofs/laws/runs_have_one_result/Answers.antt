use Rattle.wm_run.proofs.OneResult.{one_result}
use Rattle.wm_run.proofs.laws.runs_have_one_result.Goals as goal

pub returns : goal.returns
returns c = one_result c.read_as_spelled.ensures c.inputs_have_one_due.ensures
