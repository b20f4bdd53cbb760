use Rattle.box_arena.proofs.arena.BoxArena.detach.Goals as goal

pub returns : goal.returns
returns g c = rw (← c.self.view_is, ← c.key.view_is) c.detach_at.ensures.detaches
