use Rattle.std.proofs.Common.{Option, sym, subst, ℕ}
use Rattle.box_arena.specs.At.{links_at}
use Rattle.box_arena.specs.Joining.{PutsAhead}
use Rattle.box_arena.proofs.LinkSteps.{puts_last}
use Rattle.box_arena.proofs.links.put_ahead.Goals as goal

pub returns-in-None-clause-ahead : goal.returns-in-None-clause-ahead
returns-in-None-clause-ahead g c =
    let P : Option ℕ → Type 0 = λ at. PutsAhead (links_at c.args.boxes.now.slots) (links_at c.set_links.new.boxes.slots) c.args.parent at c.args.previous in
    subst P (sym c.in-None.is) (puts_last _ _ c.args.parent c.links_of-links.result c.args.previous c.links_of-links.ensures c.set_links.ensures.links)
