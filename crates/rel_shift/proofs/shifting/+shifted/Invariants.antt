use Rattle.std.proofs.Common.{◌≡◌, ◌+◌, ◌*◌, drop}
use Rattle.place_map.specs.Parts.{before, count, followed, none, parts_of}
use Rattle.rel_shift.specs.Shifting.{shifted}
use Rattle.rel_shift.specs.Totals.{total_in}
use Rattle.rel_shift.proofs.shifting.+shifted.Given as goal

-- what is shifted, before what is still to come
abbrev pub invariant-shifted_parts-loop-part : goal.invariant-shifted_parts-loop-part
invariant-shifted_parts-loop-part l =
    followed l.made.items (shifted (total_in l.totals) (parts_of (drop l.part-index l.parts))) ≡ shifted (total_in l.totals) (parts_of l.parts)

-- a fragment has more inside it than those below it; fragments together have as many as each of them
abbrev pub decreases-shifted_part : goal.decreases-shifted_part
decreases-shifted_part l = 2 * count (before l.part.now none)

abbrev pub decreases-shifted_parts : goal.decreases-shifted_parts
decreases-shifted_parts l = 2 * count (parts_of l.parts.now) + 1
