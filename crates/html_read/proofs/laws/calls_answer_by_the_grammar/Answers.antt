use Rattle.html_read.proofs.AnsweredLaws.{both_told, both_fragment}
use Rattle.html_read.proofs.laws.calls_answer_by_the_grammar.Goals as goal

pub returns : goal.returns
returns g c = record { documents = λ view bytes answer t. both_told view bytes answer t; fragments = λ view text answer t. both_fragment view text answer t }
