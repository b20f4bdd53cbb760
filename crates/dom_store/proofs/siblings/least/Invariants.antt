use Rattle.std.proofs.Common.{◌≡◌, take}
use Rattle.dom_store.specs.Refusals.{least}
use Rattle.dom_store.proofs.siblings.least.Given as goal

abbrev pub invariant-loop-number : goal.invariant-loop-number
invariant-loop-number l = l.least ≡ least (take l.number-index l.numbers)
