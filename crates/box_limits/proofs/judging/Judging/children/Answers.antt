use Rattle.dom_store.specs.State.{state_of}
use Rattle.cascade.specs.Index.{index_rules}
use Rattle.box_limits.proofs.Leasts.{finds_below}
use Rattle.box_limits.proofs.judging.Judging.children.Goals as goal

pub returns : goal.returns
returns c =
    finds_below (index_rules c.args.self.now.styling.rules.now) (state_of c.args.self.now.styling.document.now) c.requires.tree c.args.parent c.args.numbers.now c.requires.inside c.in_ok-place.place c.in_ok-place.ensures.place
    c.in_ok-found.found c.in_ok-found.ensures
