use Rattle.std.proofs.Common.{◌≡◌, ◌≤◌, ◌*◌, ◌^◌, map, take}
use Rattle.std.specs.Prelude.{All}
use Rattle.para_lines.specs.Paragraph.{atom_of}
use Rattle.para_lines.specs.Reach.{atom_reach}
use Rattle.relayout.specs.Atoms.{atom_in}
use Rattle.relayout.specs.Flowed.{as_laid}
use Rattle.relayout.proofs.content.atoms_of.Given as goal

abbrev pub invariant-loop-child : goal.invariant-loop-child
invariant-loop-child l = record {
  are : map atom_of l.made.items ≡ map (λ child. atom_in l.style l.size (as_laid child)) (take l.child-index l.laid.boxes.now);
  near : All (λ atom. atom_reach (atom_of atom) ≤ 5 * 2 ^ 36) l.made.items;
}
