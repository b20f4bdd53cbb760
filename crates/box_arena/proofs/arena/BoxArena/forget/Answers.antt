use Rattle.std.proofs.Common.{ap}
use Rattle.box_arena.specs.Marks.{is_seen}
use Rattle.box_arena.proofs.CallLemmas.{forgets, sound_moved}
use Rattle.box_arena.proofs.arena.BoxArena.forget.Goals as goal

pub invariant_of-self : goal.invariant_of-self
invariant_of-self g c = sound_moved c.self.inside.boxes.slots c.forget_below.new.boxes.slots c.forget_below.ensures.links (λ k. ap is_seen (c.forget_below.ensures.marks k)) c.self.invariant

pub returns : goal.returns
returns g c = rw (← c.self.view_is) (forgets c.self.inside.boxes c.forget_below.new.boxes c.capacity-slots.result c.capacity-slots.ensures.slots c.forget_below.ensures)
