use Rattle.html_read.proofs.AnsweredLaws.{fragment_found, fragment_nodes_shaped, fragment_refused}
use Rattle.html_read.proofs.laws.fragments_are_found_or_refused.Goals as goal

pub returns : goal.returns
returns c = record { found = λ text rest nodes e. fragment_found text rest nodes e; shaped = λ text rest nodes e. fragment_nodes_shaped text rest nodes e; refused = λ text fault e. fragment_refused text fault e }
