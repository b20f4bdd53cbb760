use Rattle.box_arena.proofs.Handovers.{parent_lives}
use Rattle.box_arena.proofs.arena.BoxArena.around.Goals as goal

pub index-requires-in-Some : goal.index-requires-in-Some
index-requires-in-Some g c = parent_lives c.self.inside.boxes c.key.inside.index c.in-Some.parent c.index.result.now c.self.invariant.linked c.index.ensures c.in-Some.is
