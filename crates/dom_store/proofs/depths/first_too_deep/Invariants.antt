use Rattle.std.proofs.Common.{◌≡◌, ◌+◌, ◌≤◌, length, drop}
use Rattle.std.specs.List.{All}
use Rattle.html_read.specs.Values.{nodes_of}
use Rattle.dom_store.specs.Opening.{depths, depths_from}
use Rattle.dom_store.specs.State.{greatest_depth}
use Rattle.dom_store.proofs.depths.first_too_deep.Given as goal

abbrev pub invariant-loop-place : goal.invariant-loop-place
invariant-loop-place l = record {
  so_far : length l.depths.items ≡ l.place;
  shallow : All (λ depth. l.above + depth ≤ greatest_depth) l.depths.items;
  same : depths_from l.depths.items (drop l.place (nodes_of l.nodes)) ≡ depths (nodes_of l.nodes);
}
