use Rattle.bidi_resolve.proofs.TurnLaws.{apart_where_they_cover}
use Rattle.bidi_resolve.proofs.laws.sequences_that_cover_are_apart.Goals as goal

pub returns : goal.returns
returns c = apart_where_they_cover
