use Rattle.std.proofs.Common.{◌≡◌, ◌≤◌, ◌-◌, drop, length}
use Rattle.std.specs.List.{position, position_from}
use Rattle.std.specs.Prelude.{nat_eq}
use Rattle.dom_store.proofs.siblings.start_of.Given as goal

-- it isn't before the start
abbrev pub invariant-loop-start : goal.invariant-loop-start
invariant-loop-start l = record {
  within : l.start ≤ length l.numbers;
  passed : position (λ other. nat_eq other l.number) l.numbers ≡ position_from (λ other. nat_eq other l.number) l.start (drop l.start l.numbers);
}

abbrev pub decreases-loop-start : goal.decreases-loop-start
decreases-loop-start l = length l.numbers - l.start
