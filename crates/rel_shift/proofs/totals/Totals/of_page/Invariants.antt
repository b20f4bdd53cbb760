use Rattle.std.proofs.Common.{◌≡◌, ℕ, ◌*◌, ◌^◌, take, reverse, Some}
use Rattle.place_map.specs.Placed.{placed_of}
use Rattle.rel_shift.specs.Bounds.{IsWithin}
use Rattle.rel_shift.specs.Totals.{total_back, total_in}
use Rattle.rel_shift.proofs.totals.Totals.of_page.Given as goal

-- the shifts by the positions so far
abbrev pub invariant-loop-position : goal.invariant-loop-position
invariant-loop-position l =
    ((node : ℕ) → total_in l.totals node ≡ total_back (placed_of l.placed) (Some node) (reverse (take l.position-index l.positions)))
    × ((node : ℕ) → IsWithin (l.position-index * 2 ^ 32) (total_in l.totals node))
