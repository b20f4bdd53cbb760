use Rattle.std.proofs.Common.{Option, Some, subst, ℕ}
use Rattle.box_arena.specs.At.{links_at}
use Rattle.box_arena.specs.Joining.{PutsBehind}
use Rattle.box_arena.specs.Write.{Puts}
use Rattle.box_arena.proofs.LinkSteps.{joins_made, only_links, only_then}
use Rattle.box_arena.proofs.links.link.Goals as goal

pub returns-clause-joins : goal.returns-clause-joins
returns-clause-joins g c =
    let P : Option ℕ → Type 0 = λ o. Puts (links_at c.args.boxes.now.slots) (links_at c.set_links.new.boxes.slots) c.args.child (record c.links_of-links.result { parent = Some c.args.parent; previous = o; next = c.args.before }) in
    let Q : Option ℕ → Type 0 = λ o. PutsBehind (links_at c.set_links.new.boxes.slots) (links_at c.put_behind.new.boxes.slots) c.args.parent o (Some c.args.child) in
    joins_made (links_at c.args.boxes.now.slots) (links_at c.set_links.new.boxes.slots) (links_at c.put_behind.new.boxes.slots) (links_at c.put_ahead.new.boxes.slots)
    c.args.parent c.args.child c.args.before c.links_of-links.result c.links_of-links.ensures (subst P c.ahead_of-after.ensures c.set_links.ensures.links)
    (subst Q c.ahead_of-after.ensures c.put_behind.ensures.behind) c.put_ahead.ensures.ahead c.requires.linked c.requires.free c.requires.inside

pub returns-clause-only : goal.returns-clause-only
returns-clause-only g c = only_then _ _ _ (only_then _ _ _ (only_links _ _ _ _ c.set_links.ensures) c.put_behind.ensures.only) c.put_ahead.ensures.only
