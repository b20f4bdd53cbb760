use Rattle.std.specs.Prelude.{◌≤◌}
use Rattle.box_arena.specs.Boxes.{StandFrom}
use Rattle.box_gen.specs.Tree.{Boxes}
use Rattle.relayout.proofs.flowing.count_of.Given as goal

abbrev pub invariant-loop : goal.invariant-loop
invariant-loop l = record {
  stand : (rest : Boxes) × StandFrom l.arena.slots l.next rest;
  count : l.count ≤ l.counter;
}
