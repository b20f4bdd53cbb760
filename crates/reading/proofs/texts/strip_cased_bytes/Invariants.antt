use Rattle.std.proofs.Common.{◌≡◌, drop}
use Rattle.reading.specs.Readers as readers
use Rattle.reading.proofs.texts.strip_cased_bytes.Given as goal

abbrev pub invariant-loop-wanted : goal.invariant-loop-wanted
invariant-loop-wanted l = readers.strip_either_case (drop l.wanted-index l.word) l.rest ≡ readers.strip_either_case l.word l.bytes
