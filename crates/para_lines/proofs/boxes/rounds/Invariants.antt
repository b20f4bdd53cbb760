use Rattle.fragment_types.specs.Item.{entries_of}
use Rattle.para_lines.proofs.Chaining.{Rounding}
use Rattle.para_lines.proofs.boxes.rounds.Given as goal

abbrev pub invariant-loop-place : goal.invariant-loop-place
invariant-loop-place l = Rounding (entries_of l.items) l.place l.rounds.items l.round
