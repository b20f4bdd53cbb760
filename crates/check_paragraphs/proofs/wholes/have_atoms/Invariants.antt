use Rattle.std.proofs.Common.{◌≤◌, drop}
use Rattle.para_prepare.specs.Preparation.{atoms_in}
use Rattle.check_paragraphs.proofs.wholes.have_atoms.Given as goal

-- there are enough for all, if there are for those still to come
abbrev pub invariant-loop-item : goal.invariant-loop-item
invariant-loop-item l = atoms_in (drop l.item-index l.items) ≤ l.left → atoms_in l.items ≤ l.count
