use Rattle.std.proofs.Common.{◌≡◌, map, drop}
use Rattle.line_place.specs.Walk.{followed}
use Rattle.relayout.specs.Content.{set_down}
use Rattle.relayout.specs.Flowed.{as_laid}
use Rattle.relayout.proofs.content.set_down.Given as goal

abbrev pub invariant-loop-k : goal.invariant-loop-k
invariant-loop-k l =
    followed l.made.items (set_down l.own l.size (drop l.k (map as_laid l.laid.boxes.now)) (drop l.k l.places))
    ≡ set_down l.own l.size (map as_laid l.laid.boxes.now) l.places
