use Rattle.std.proofs.Common.{◌≡◌, ◌+◌, ◌*◌, drop}
use Rattle.fragment_types.specs.Fragment.{piece_of, pieces_of}
use Rattle.place_map.specs.Parts.{followed}
use Rattle.place_map.specs.Placing.{placed}
use Rattle.place_map.proofs.Trees.{count}
use Rattle.place_map.proofs.placing.+placed.Given as goal

-- what is made, before what is still to come
abbrev pub invariant-placed_parts-loop-fragment : goal.invariant-placed_parts-loop-fragment
invariant-placed_parts-loop-fragment l = followed l.made.items (placed l.frame (pieces_of (drop l.fragment-index l.fragments))) ≡ placed l.frame (pieces_of l.fragments)

-- a fragment has more inside it than those below it; fragments together have as many as each of them
abbrev pub decreases-placed_part : goal.decreases-placed_part
decreases-placed_part l = 2 * count (piece_of l.fragment.now)

abbrev pub decreases-placed_parts : goal.decreases-placed_parts
decreases-placed_parts l = 2 * count (pieces_of l.fragments.now) + 1
