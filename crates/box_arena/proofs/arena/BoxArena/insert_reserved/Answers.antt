use Rattle.std.proofs.Common.{arith, Some, subst}
use Rattle.slab.specs.Slab.{Updates}
use Rattle.box_arena.specs.declared.entry.Entry.{Entry}
use Rattle.box_arena.proofs.CallLemmas.{alive, is_new, live_on, sound_inserted}
use Rattle.box_arena.proofs.arena.BoxArena.insert_reserved.Goals as goal

pub invariant_of-self : goal.invariant_of-self
invariant_of-self g c =
    let P : Entry _ → Type 0 = λ e. Updates c.self.inside.boxes c.insert_reserved-index.new.self c.insert_reserved-index.result (Some e) in
    sound_inserted c.self.inside.boxes c.insert_reserved-index.new.self c.insert_reserved-index.result c.args.node c.insert_reserved-index.ensures.was_vacant (subst P c.new-entry.ensures c.insert_reserved-index.ensures.updates) c.self.invariant

pub returns-clause-inserts : goal.returns-clause-inserts
returns-clause-inserts g c =
    let P : Entry _ → Type 0 = λ e. Updates c.self.inside.boxes c.insert_reserved-index.new.self c.insert_reserved-index.result (Some e) in
    let updates = subst P c.new-entry.ensures c.insert_reserved-index.ensures.updates in
    rw (← c.self.view_is) (record {
      free = c.insert_reserved-index.ensures.was_vacant;
      alive = alive c.self.inside.boxes c.insert_reserved-index.new.self c.insert_reserved-index.result c.args.node c.insert_reserved-index.ensures.was_vacant updates;
      live = live_on c.self.inside.boxes c.insert_reserved-index.new.self c.insert_reserved-index.result c.args.node c.insert_reserved-index.ensures.was_vacant updates;
      here = is_new c.self.inside.boxes c.insert_reserved-index.new.self c.insert_reserved-index.result c.args.node c.insert_reserved-index.ensures.was_vacant updates;
      others = updates.others;
      room = λ n fits. omega (arith, c.insert_reserved-index.ensures.len, c.insert_reserved-index.ensures.capacity);
    })

pub returns-clause-linked : goal.returns-clause-linked
returns-clause-linked g c = rw (← c.self.view_is) c.self.invariant.linked
