use Rattle.box_arena.specs.Reusing.{FindsBelow}
use Rattle.box_arena.proofs.reusing.keys_of.Given as goal

-- the boxes with the keys before it are found
abbrev pub invariant-loop-key : goal.invariant-loop-key
invariant-loop-key g l = FindsBelow l.keys l.arena.slots l.key
