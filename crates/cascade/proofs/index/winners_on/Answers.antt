use Rattle.std.proofs.Common.{List, ◌∙◌, ap}
use Rattle.cascade.specs.declared.claim.Claim.{Claim}
use Rattle.cascade.specs.Winners.{winners_in}
use Rattle.cascade.proofs.index.winners_on.Goals as goal

pub returns : goal.returns
returns c = c.in_ok-winners.ensures ∙ ap (λ (list : List Claim). winners_in list c.args.parent.now) (c.deref.ensures.value ∙ c.in_ok-claims.ensures)
