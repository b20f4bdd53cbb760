use Rattle.box_arena.proofs.Handed.{some_kept}
use Rattle.box_arena.proofs.arena.BoxArena.keeps_results.Goals as goal

pub returns-clause-some : goal.returns-clause-some
returns-clause-some g c = rw (← c.self.view_is, ← c.key.view_is)
    (λ keeps absent. let (fresh, some) = c.keeps_results.ensures.some keeps in some_kept c.self.inside.boxes c.key.inside.index c.index.result.now c.index.ensures fresh some absent)
