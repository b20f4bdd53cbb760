use Rattle.std.proofs.Common.{refl}
use Rattle.box_arena.proofs.CallLemmas.{drops_text, held_there, sound_written}
use Rattle.box_arena.proofs.Climbs.{linked_where, lives}
use Rattle.box_arena.proofs.arena.BoxArena.stale.Goals as goal

pub invariant_of-self : goal.invariant_of-self
invariant_of-self g c =
    let (held, is) = held_there c.mark_up.new.boxes c.key.inside.index (lives c.self.inside.boxes c.mark_up.new.boxes c.mark_up.ensures.only.links c.key.inside.index (linked_where c.self.inside.boxes c.key.inside.index (rw (c.self.view_is, c.key.view_is) c.requires))) in
    let writes = c.drop_text.ensures held is in
    sound_written c.self.inside.boxes c.mark_up.new.boxes c.drop_text.new.boxes c.mark_up.ensures.only c.mark_up.ensures.still writes.links writes.marks c.self.invariant

pub returns : goal.returns
returns g c =
    let (held, is) = held_there c.mark_up.new.boxes c.key.inside.index (lives c.self.inside.boxes c.mark_up.new.boxes c.mark_up.ensures.only.links c.key.inside.index (linked_where c.self.inside.boxes c.key.inside.index (rw (c.self.view_is, c.key.view_is) c.requires))) in
    rw (← c.self.view_is, ← c.key.view_is) (drops_text c.self.inside.boxes c.mark_up.new.boxes c.drop_text.new.boxes c.key.inside.index held _ c.mark_up.ensures.marked c.mark_up.ensures.only is (c.drop_text.ensures held is) refl)
