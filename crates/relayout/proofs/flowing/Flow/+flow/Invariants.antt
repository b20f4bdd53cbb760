use Rattle.std.specs.Prelude.{◌≡◌}
use Rattle.relayout.specs.Counts.{counted}
use Rattle.relayout.specs.Row.{outside_of}
use Rattle.relayout.proofs.Counting.{Counting}
use Rattle.relayout.proofs.FlowingLaws.{Going}
use Rattle.relayout.proofs.flowing.Flow.+flow.Given as goal

abbrev pub invariant-loop : goal.invariant-loop
invariant-loop g l = record {
  arena : l.self.arena.ghost_name ≡ l.fn.self.arena.ghost_name;
  texts : l.self.texts.ghost_name ≡ l.fn.self.texts.ghost_name;
  arranged : l.self.arranged.ghost_name ≡ l.fn.self.arranged.ghost_name;
  going : Going (outside_of (λ vtable. (g.dyn-1.0.entry vtable).1) l.page) l.fn.self.arena.now l.self.arena.now l.row l.next l.counter l.laid.items;
  counting : Counting (outside_of (λ vtable. (g.dyn-1.0.entry vtable).1) l.page) l.fn.self.arena.now.slots l.self.arena.now.slots l.row l.next (counted l.fn.self.texts.now l.fn.self.arranged.now) (counted l.self.texts.now l.self.arranged.now);
}

abbrev pub decreases-flow : goal.decreases-flow
decreases-flow g l = l.row.now.depth
