use Rattle.box_arena.proofs.Handed.{sound_given, sound_replaced}
use Rattle.box_arena.proofs.arena.BoxArena.take_results.Goals as goal

pub invariant_of-self : goal.invariant_of-self
invariant_of-self g c = sound_replaced c.self.inside.boxes c.put_results_at.new.boxes c.key.inside.index c.take_results_at-results.result c.put_results_at.ensures c.self.invariant

pub invariant_of-other : goal.invariant_of-other
invariant_of-other g c = sound_given c.other.inside.boxes c.take_results_at-results.new.boxes c.from.inside.index c.take_results_at-results.result c.take_results_at-results.ensures.taken c.other.invariant
