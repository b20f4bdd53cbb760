use Rattle.html_read.proofs.AnsweredLaws.{document_found, nodes_shaped, document_refused}
use Rattle.html_read.proofs.laws.documents_are_found_or_refused.Goals as goal

pub returns : goal.returns
returns c = record { found = λ bytes rest whole e. document_found bytes rest whole e; shaped = λ bytes rest whole e. nodes_shaped bytes rest whole e; refused = λ bytes fault e. document_refused bytes fault e }
