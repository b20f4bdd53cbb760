use Rattle.std.proofs.Common.{◌≡◌, drop}
use Rattle.reading.specs.Readers as readers
use Rattle.reading.proofs.texts.strip_bytes.Given as goal

abbrev pub invariant-loop-wanted : goal.invariant-loop-wanted
invariant-loop-wanted l = readers.strip (drop l.wanted-index l.word) l.rest ≡ readers.strip l.word l.bytes
