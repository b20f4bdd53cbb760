use Rattle.std.proofs.Common.{◌≡◌, drop}
use Rattle.reading.specs.Names.{lowered, named, words_of}
use Rattle.css_values.specs.ByLength.{rows_at}
use Rattle.css_values.proofs.judging.named_at.Given as goal

abbrev pub invariant-loop-place : goal.invariant-loop-place
invariant-loop-place l = named (rows_at (words_of l.table) (drop l.place-index l.places)) (lowered l.name) ≡ named (rows_at (words_of l.table) l.places) (lowered l.name)
