use Rattle.bidi_explicit.proofs.Matching.{one_level}
use Rattle.bidi_explicit.proofs.laws.matching_pdis_have_one_level.Goals as goal

pub returns : goal.returns
returns c = one_level
