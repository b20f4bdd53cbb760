use Rattle.std.proofs.Common.{refl}
use Rattle.box_arena.proofs.CallLemmas.{restyles, held_there, sound_written}
use Rattle.box_arena.proofs.Climbs.{linked_where, lives}
use Rattle.box_arena.proofs.arena.BoxArena.restyle.Goals as goal

pub invariant_of-self : goal.invariant_of-self
invariant_of-self g c =
    let (held, is) = held_there c.mark_up.new.boxes c.key.inside.index (lives c.self.inside.boxes c.mark_up.new.boxes c.mark_up.ensures.only.links c.key.inside.index (linked_where c.self.inside.boxes c.key.inside.index (rw (c.self.view_is, c.key.view_is) c.requires))) in
    let writes = c.put_node.ensures.new held is in
    sound_written c.self.inside.boxes c.mark_up.new.boxes c.put_node.new.boxes c.mark_up.ensures.only c.mark_up.ensures.still writes.links writes.marks c.self.invariant

pub returns-clause-new : goal.returns-clause-new
returns-clause-new g c =
    let (held, is) = held_there c.mark_up.new.boxes c.key.inside.index (lives c.self.inside.boxes c.mark_up.new.boxes c.mark_up.ensures.only.links c.key.inside.index (linked_where c.self.inside.boxes c.key.inside.index (rw (c.self.view_is, c.key.view_is) c.requires))) in
    rw (← c.self.view_is, ← c.key.view_is) (restyles c.self.inside.boxes c.mark_up.new.boxes c.put_node.new.boxes c.key.inside.index held _ c.mark_up.ensures.marked c.mark_up.ensures.only is (c.put_node.ensures.new held is) c.args.node refl)
