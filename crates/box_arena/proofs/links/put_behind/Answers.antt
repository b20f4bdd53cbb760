use Rattle.std.proofs.Common.{Option, sym, subst, ℕ}
use Rattle.box_arena.specs.At.{links_at}
use Rattle.box_arena.specs.Joining.{PutsBehind}
use Rattle.box_arena.proofs.LinkSteps.{puts_first}
use Rattle.box_arena.proofs.links.put_behind.Goals as goal

pub returns-in-None-clause-behind : goal.returns-in-None-clause-behind
returns-in-None-clause-behind g c =
    let P : Option ℕ → Type 0 = λ at. PutsBehind (links_at c.args.boxes.now.slots) (links_at c.set_links.new.boxes.slots) c.args.parent at c.args.next in
    subst P (sym c.in-None.is) (puts_first _ _ c.args.parent c.links_of-links.result c.args.next c.links_of-links.ensures c.set_links.ensures.links)
