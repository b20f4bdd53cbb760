use Rattle.para_lines.specs.Boxes.{chain_at, chain_behind}
use Rattle.para_lines.proofs.Chaining.{left_of}
use Rattle.para_lines.proofs.FillLaws.{Edging}
use Rattle.para_lines.proofs.filling.FillInput.edges_between.Given as goal

abbrev pub invariant-loop-inside : goal.invariant-loop-inside
invariant-loop-inside l =
    Edging l.self.inline l.self.boxes.now l.side (chain_at l.self.boxes.now l.source) (chain_behind l.self.boxes.now l.other) l.inside l.edges

abbrev pub decreases-loop-inside : goal.decreases-loop-inside
decreases-loop-inside l = left_of l.inside
