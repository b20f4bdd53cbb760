use Rattle.std.proofs.Common.{◌≡◌, take, unsigned_abs}
use Rattle.std.specs.List.{sum_by}
use Rattle.check_paragraphs.proofs.wholes.sum_of.Given as goal

-- the sum so far
abbrev pub invariant-loop-length : goal.invariant-loop-length
invariant-loop-length l = l.sum ≡ sum_by unsigned_abs (take l.length-index l.lengths)
