use Rattle.std.proofs.Common.{◌≡◌, ◌∙◌, Option, Some, refl, sym, ap, subst, ℕ}
use Rattle.box_arena.specs.At.{links_at}
use Rattle.box_arena.specs.Joining.{PutsAhead, PutsBehind}
use Rattle.box_arena.specs.Links.{next_of, previous_of}
use Rattle.box_arena.proofs.Climbs.{lives}
use Rattle.box_arena.proofs.LinkSteps.{has_links, only_links, only_then, parts_made, still_lives}
use Rattle.box_arena.proofs.links.unlink.Goals as goal

pub put_behind-requires-clause-parent : goal.put_behind-requires-clause-parent
put_behind-requires-clause-parent g c = lives c.args.boxes.now c.args.boxes.now (λ k. refl) c.args.parent (c.requires.linked.live c.args.child c.args.parent c.requires.inside)

pub put_behind-requires-clause-at : goal.put_behind-requires-clause-at
put_behind-requires-clause-at g c = λ k is.
    has_links c.args.boxes.now c.args.parent k (previous_of (links_at c.args.boxes.now.slots c.args.child)) (c.requires.linked.off c.args.parent (Some c.args.child) c.requires.inside) (ap previous_of c.links_of-around.ensures ∙ is)

pub put_ahead-requires-clause-at : goal.put_ahead-requires-clause-at
put_ahead-requires-clause-at g c = λ k is.
    let was = has_links c.args.boxes.now c.args.parent k (next_of (links_at c.args.boxes.now.slots c.args.child)) (c.requires.linked.on c.args.parent (Some c.args.child) c.requires.inside) (ap next_of c.links_of-around.ensures ∙ is) in
    still_lives c.args.boxes.now c.put_behind.new.boxes c.put_behind.ensures.behind.live k was

pub returns-clause-parts : goal.returns-clause-parts
returns-clause-parts g c =
    let before : c.links_of-around.result.previous ≡ previous_of (links_at c.args.boxes.now.slots c.args.child) = sym (ap previous_of c.links_of-around.ensures) in
    let next : c.links_of-around.result.next ≡ next_of (links_at c.args.boxes.now.slots c.args.child) = sym (ap next_of c.links_of-around.ensures) in
    let P : Option ℕ → Option ℕ → Type 0 = λ at put. PutsBehind (links_at c.args.boxes.now.slots) (links_at c.put_behind.new.boxes.slots) c.args.parent at put in
    let Q : Option ℕ → Option ℕ → Type 0 = λ at put. PutsAhead (links_at c.put_behind.new.boxes.slots) (links_at c.put_ahead.new.boxes.slots) c.args.parent at put in
    parts_made (links_at c.args.boxes.now.slots) (links_at c.put_behind.new.boxes.slots) (links_at c.put_ahead.new.boxes.slots) (links_at c.set_links.new.boxes.slots)
    c.args.parent c.args.child c.links_of-links.result c.links_of-links.ensures
    (subst (λ (at : Option ℕ). P at (next_of (links_at c.args.boxes.now.slots c.args.child))) before (subst (λ (put : Option ℕ). P c.links_of-around.result.previous put) next c.put_behind.ensures.behind))
    (subst (λ (at : Option ℕ). Q at (previous_of (links_at c.args.boxes.now.slots c.args.child))) next (subst (λ (put : Option ℕ). Q c.links_of-around.result.next put) before c.put_ahead.ensures.ahead))
    c.set_links.ensures.links c.requires.linked c.requires.inside

pub returns-clause-only : goal.returns-clause-only
returns-clause-only g c = only_then _ _ _ (only_then _ _ _ c.put_behind.ensures.only c.put_ahead.ensures.only) (only_links _ _ _ _ c.set_links.ensures)
