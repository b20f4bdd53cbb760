use Rattle.html_read.proofs.TextNodes.{document_texts, document_bytes, fragment_texts, fragment_bytes}
use Rattle.html_read.proofs.laws.texts_stand_apart.Goals as goal

pub returns : goal.returns
returns c = record { documents = document_texts; document_bytes = document_bytes; fragments = fragment_texts; fragment_bytes = fragment_bytes }
