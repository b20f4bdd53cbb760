use Rattle.box_arena.proofs.CallLemmas.{marks_of, sound_marked}
use Rattle.box_arena.proofs.arena.BoxArena.mark.Goals as goal

pub invariant_of-self : goal.invariant_of-self
invariant_of-self g c = sound_marked c.self.inside.boxes c.mark_up.new.boxes c.mark_up.ensures.only c.mark_up.ensures.still c.self.invariant

pub returns : goal.returns
returns g c = rw (← c.self.view_is, ← c.key.view_is) (marks_of c.self.inside.boxes c.mark_up.new.boxes c.key.inside.index c.mark_up.ensures.marked c.mark_up.ensures.only)
