use Rattle.html_read.specs.Values.{whole_of}
use Rattle.html_read.proofs.AnsweredLaws.{told_document}
use Rattle.html_read.proofs.document.read_document.Goals as goal

pub returns-clause-found : goal.returns-clause-found
returns-clause-found c = told_document whole_of c.args.bytes.now c.answer_document.result c.answer_document.ensures
