use Rattle.std.specs.Prelude.{flat_map, take}
use Rattle.std.specs.Io.KnownBytes.{Appends}
use Rattle.report_nodes.specs.Lines.{line}
use Rattle.report_nodes.proofs.lines.write_places.Given as goal

abbrev pub invariant-loop-place : goal.invariant-loop-place
invariant-loop-place g l = Appends (g.W.Write.contents l.fn.output) (g.W.Write.contents l.output) (flat_map line (take l.place-index l.places))
