use Rattle.std.proofs.Common.{◌≡◌, take}
use Rattle.fragment_types.specs.Item.{entries_of}
use Rattle.box_arena.proofs.equality.equal_items.Given as goal

-- those before it are the same
abbrev pub invariant-loop-place : goal.invariant-loop-place
invariant-loop-place l = entries_of (take l.place l.one) ≡ entries_of (take l.place l.other)
