use Rattle.std.proofs.Common.{◌≡◌, ℕ, [], length}
use Rattle.dom_store.specs.Building.{numbers_at}
use Rattle.dom_store.proofs.children.empty_lists.Given as goal

abbrev pub invariant-loop : goal.invariant-loop
invariant-loop l = record {
  count : length l.lists.items ≡ l.counter;
  empty : (place : ℕ) → numbers_at l.lists.items place ≡ [];
}
