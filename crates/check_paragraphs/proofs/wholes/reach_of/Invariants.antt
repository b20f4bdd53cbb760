use Rattle.std.proofs.Common.{◌≡◌, take}
use Rattle.std.specs.List.{sum_by}
use Rattle.para_lines.specs.Paragraph.{atom_of}
use Rattle.para_lines.specs.Reach.{atom_reach}
use Rattle.check_paragraphs.proofs.wholes.reach_of.Given as goal

-- the sum so far
abbrev pub invariant-loop-atom : goal.invariant-loop-atom
invariant-loop-atom l = l.sum ≡ sum_by (λ atom. atom_reach (atom_of atom)) (take l.atom-index l.atoms)
