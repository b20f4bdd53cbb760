use Rattle.session.proofs.Answering.{one_answer}
use Rattle.session.proofs.laws.one_answer.Goals as goal

pub returns : goal.returns
returns c = one_answer
