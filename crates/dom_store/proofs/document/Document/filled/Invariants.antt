use Rattle.std.proofs.Common.{◌≡◌, ◌≤◌, length, drop, map}
use Rattle.html_read.specs.Values.{nodes_of}
use Rattle.dom_store.specs.Building.{IsFilledFrom}
use Rattle.dom_store.specs.Opening.{opened}
use Rattle.dom_store.specs.State.{state_of}
use Rattle.dom_store.proofs.document.Document.filled.Given as goal

abbrev pub invariant-loop-children : goal.invariant-loop-children
invariant-loop-children l = record {
  within : l.document.next ≤ length l.fn.lists.items;
  rest : l.children-iterator.rest.items ≡ drop l.document.next l.fn.lists.items;
  filled : IsFilledFrom (opened (nodes_of l.nodes) (map (λ own. own.items) l.styles)) (state_of l.document);
}
