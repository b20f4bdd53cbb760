use Rattle.std.specs.Prelude.{flat_map, take}
use Rattle.std.specs.Io.KnownBytes.{Appends}
use Rattle.report_styles.specs.Lines.{line}
use Rattle.report_styles.specs.Views.{told_of}
use Rattle.report_styles.proofs.writing.write_all_told.Given as goal

abbrev pub invariant-loop-one : goal.invariant-loop-one
invariant-loop-one g l = Appends (g.W.Write.contents l.fn.output) (g.W.Write.contents l.output) (flat_map (λ one. line (told_of one)) (take l.one-index l.told))
