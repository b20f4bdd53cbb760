use Rattle.std.proofs.Common.{◌≤◌, ◌+◌, ◌-◌, length}
use Rattle.std.specs.Vec.{vec_capacity, vec_len}
use Rattle.para_lines.proofs.StandLaws.{Counting}
use Rattle.para_lines.proofs.standing.skipped_atoms.Given as goal

abbrev pub invariant-loop-place : goal.invariant-loop-place
invariant-loop-place l = record {
  counting : Counting (length l.atoms) l.items l.made.items l.count l.place;
  room : vec_len l.made + (length l.items - l.place) ≤ vec_capacity l.made;
}
