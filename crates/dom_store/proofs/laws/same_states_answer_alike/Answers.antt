use Rattle.dom_store.proofs.SameLaws.{answer_alike}
use Rattle.dom_store.proofs.laws.same_states_answer_alike.Goals as goal

pub returns : goal.returns
returns c = answer_alike
