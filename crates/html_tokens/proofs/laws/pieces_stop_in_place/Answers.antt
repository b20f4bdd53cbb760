use Rattle.html_tokens.proofs.PlaceLaws.{end_name_local, end_name_viable, comment_local, comment_viable, doctype_local, doctype_viable, reference_local, reference_viable}
use Rattle.html_tokens.proofs.laws.pieces_stop_in_place.Goals as goal

pub returns : goal.returns
returns c = record {
  end_names = (end_name_local, end_name_viable);
  comments = (comment_local, comment_viable);
  doctype = (doctype_local, doctype_viable);
  references = (reference_local, reference_viable);
}
