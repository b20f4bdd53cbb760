use Rattle.para_lines.specs.Boxes.{chain_at, chain_behind}
use Rattle.para_lines.proofs.Chaining.{Climbing, left_of}
use Rattle.para_lines.proofs.boxes.Boxes.apart.Given as goal

abbrev pub invariant-loop-inside : goal.invariant-loop-inside
invariant-loop-inside l = Climbing l.self (chain_at l.self l.place) (chain_behind l.self l.other) l.inside l.places.items

abbrev pub decreases-loop-inside : goal.decreases-loop-inside
decreases-loop-inside l = left_of l.inside
