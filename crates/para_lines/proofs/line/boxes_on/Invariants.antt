use Rattle.std.proofs.Common.{◌≡◌, ◌<◌, ◌++◌, [], drop, length}
use Rattle.std.specs.Prelude.{IfSome}
use Rattle.para_lines.specs.Boxes.{chain_behind}
use Rattle.para_lines.specs.Line.{on_line}
use Rattle.para_lines.proofs.line.boxes_on.Given as goal

abbrev pub invariant-loop-k : goal.invariant-loop-k
invariant-loop-k l =
    (l.places.items ++ on_line l.boxes (chain_behind l.boxes l.before) (drop l.k l.standings)
    ≡ on_line l.boxes [] l.standings)
    × IfSome l.before (λ before. before < length l.boxes)
