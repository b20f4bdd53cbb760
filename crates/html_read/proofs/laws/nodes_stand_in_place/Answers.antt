use Rattle.html_read.proofs.ShapeLaws.{document_shaped, fragment_shaped}
use Rattle.html_read.proofs.laws.nodes_stand_in_place.Goals as goal

pub returns : goal.returns
returns c = record { documents = λ text behind whole is. document_shaped text behind whole is; fragments = λ text nodes is. fragment_shaped text nodes is }
