use Rattle.box_arena.proofs.CallLemmas.{keeps_result, sound_kept}
use Rattle.box_arena.proofs.arena.BoxArena.keep.Goals as goal

pub invariant_of-self-2 : goal.invariant_of-self-2
invariant_of-self-2 g c = sound_kept c.self.inside.boxes c.keep_at.new.boxes c.key.inside.index c.args.c c.args.fragment c.in_ok-keep_at.ensures.ok c.self.invariant

pub returns-clause-ok : goal.returns-clause-ok
returns-clause-ok g c = rw (← c.self.view_is, ← c.key.view_is) (keeps_result c.self.inside.boxes c.keep_at.new.boxes c.key.inside.index c.args.c c.args.fragment c.in_ok-keep_at.ensures.ok)
