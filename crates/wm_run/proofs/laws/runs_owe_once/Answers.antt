use Rattle.wm_run.proofs.OneResult.{owe_once}
use Rattle.wm_run.proofs.laws.runs_owe_once.Goals as goal

pub returns : goal.returns
returns c = owe_once c.read_as_spelled.ensures c.inputs_owe_once.ensures
