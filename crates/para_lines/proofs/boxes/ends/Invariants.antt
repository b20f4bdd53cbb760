use Rattle.fragment_types.specs.Item.{entries_of}
use Rattle.para_lines.proofs.Chaining.{Ending}
use Rattle.para_lines.proofs.boxes.ends.Given as goal

abbrev pub invariant-loop-place : goal.invariant-loop-place
invariant-loop-place l = Ending (entries_of l.items) l.place l.ends.items

abbrev pub decreases-loop-place : goal.decreases-loop-place
decreases-loop-place l = l.place
