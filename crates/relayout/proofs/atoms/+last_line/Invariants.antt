use Rattle.std.proofs.Common.{◌≡◌, ◌≤◌, ◌-◌, ◌^◌, length, take}
use Rattle.fragment_types.specs.Fragment.{pieces_of}
use Rattle.relayout.specs.Atoms.{last_line}
use Rattle.relayout.specs.Near.{line_reach}
use Rattle.relayout.proofs.atoms.+last_line.Given as goal

abbrev pub invariant-last_line-loop-k : goal.invariant-last_line-loop-k
invariant-last_line-loop-k l =
    line_reach (pieces_of l.fragments) ≤ 2 ^ 61 → last_line l.mode (pieces_of (take (length l.fragments - l.k) l.fragments)) ≡ last_line l.mode (pieces_of l.fragments)
