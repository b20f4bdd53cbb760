use Rattle.std.proofs.Common.{◌≡◌, ◌≤◌, ◌+◌, ◌-◌, length, map, take}
use Rattle.std.specs.Vec.{vec_capacity, vec_len}
use Rattle.para_lines.proofs.filled.ParagraphInput.fill_items.Given as goal

abbrev pub invariant-loop-atom : goal.invariant-loop-atom
invariant-loop-atom l = record {
  items : l.extents.items ≡ map (λ atom. atom.extent) (take l.atom-index l.self.atoms.now);
  room : vec_len l.extents + (length l.self.atoms.now - l.atom-index) ≤ vec_capacity l.extents;
}
