use Rattle.std.proofs.Common.{List, ◌∙◌, ap}
use Rattle.cascade.specs.declared.claim.Claim.{Claim}
use Rattle.cascade.specs.Line.{whats_of}
use Rattle.cascade.specs.Winners.{winners_in}
use Rattle.cascade.proofs.Candidates.{winners_are_same}
use Rattle.cascade.proofs.index.RuleIndex.winners_found.Goals as goal

pub returns : goal.returns
returns c =
    let index = c.args.self.now in
    c.in_ok-winners.ensures ∙ ap (λ (list : List Claim). winners_in list c.args.parent.now) (c.deref.ensures.value ∙ c.in_ok-claims.ensures)
    ∙ winners_are_same index.rules.rules.items index.defaults.filed.rules.items index.rules.shelves index.defaults.filed.shelves (whats_of c.args.line.nodes.now) c.args.parent.now
    index.rules.are_shelved index.defaults.filed.are_shelved index.defaults.are_default
