use Rattle.std.proofs.Common.{◌≡◌, ℕ, length, take}
use Rattle.html_read.specs.Values.{nodes_of}
use Rattle.dom_store.specs.Building.{numbers_at}
use Rattle.dom_store.specs.Opening.{children_from}
use Rattle.dom_store.proofs.children.children_of.Given as goal

abbrev pub invariant-loop-place : goal.invariant-loop-place
invariant-loop-place l = record {
  count : length l.lists.items ≡ length l.nodes;
  lists : (place : ℕ) → numbers_at l.lists.items place ≡ children_from l.first place (take l.place (nodes_of l.nodes));
}
