use Rattle.std.proofs.Common.{◌≡◌, take}
use Rattle.std.specs.List.{list_any}
use Rattle.std.specs.Prelude.{nat_eq}
use Rattle.dom_store.proofs.siblings.has.Given as goal

-- it is among those that were looked at, or not
abbrev pub invariant-loop-other : goal.invariant-loop-other
invariant-loop-other l = l.found ≡ list_any (λ other. nat_eq other l.number) (take l.other-index l.numbers)
