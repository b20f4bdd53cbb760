use Rattle.std.proofs.Common.{◌≡◌, ◌+◌, ◌*◌, drop}
use Rattle.place_map.specs.Parts.{before, count, followed, none, parts_of}
use Rattle.page_turn.specs.Turning.{turned_parts}
use Rattle.page_turn.proofs.turning.+turned.Given as goal

-- what is turned, before what is still to come
abbrev pub invariant-turned_parts-loop-part : goal.invariant-turned_parts-loop-part
invariant-turned_parts-loop-part l =
    followed l.made.items (turned_parts l.turn.mode l.turn.view (parts_of (drop l.part-index l.parts))) ≡ turned_parts l.turn.mode l.turn.view (parts_of l.parts)

-- a fragment has more inside it than those below it; fragments together have as many as each of them
abbrev pub decreases-turned_part : goal.decreases-turned_part
decreases-turned_part l = 2 * count (before l.part.now none)

abbrev pub decreases-turned_parts : goal.decreases-turned_parts
decreases-turned_parts l = 2 * count (parts_of l.parts.now) + 1
