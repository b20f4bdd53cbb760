use Rattle.std.proofs.Common.{◌≡◌, drop}
use Rattle.reading.specs.Names.{lowered, named, words_of}
use Rattle.reading.proofs.table.named.Given as goal

abbrev pub invariant-loop-other : goal.invariant-loop-other
invariant-loop-other g l = named (words_of (drop l.other-index l.table)) (lowered l.name) ≡ named (words_of l.table) (lowered l.name)
