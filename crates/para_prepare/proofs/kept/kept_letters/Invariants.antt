use Rattle.std.specs.Prelude.{◌≡◌, ◌++◌, drop, false, length}
use Rattle.fragment_types.specs.Item.{entries_of}
use Rattle.para_prepare.specs.Kept.{ends_from, joined, kept_from}
use Rattle.para_prepare.specs.Marks.{marks_with}
use Rattle.para_prepare.specs.White.{signs}
use Rattle.para_prepare.proofs.kept.kept_letters.Given as goal

abbrev pub invariant-loop-i : goal.invariant-loop-i
invariant-loop-i l =
    let left = entries_of (drop l.i l.items) in
    let all = entries_of l.items in
    let rest = kept_from left (marks_with (signs left) l.keeper.follows) in
    (l.keeper.letters.items ++ joined rest ≡ joined (kept_from all (marks_with (signs all) false)))
    × (l.ends.items ++ ends_from (length l.keeper.letters.items) rest ≡ ends_from 0 (kept_from all (marks_with (signs all) false)))
