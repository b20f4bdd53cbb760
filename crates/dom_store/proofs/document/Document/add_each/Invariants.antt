use Rattle.std.proofs.Common.{◌≡◌, ◌+◌, ◌≤◌, ◌-◌, length, drop, map}
use Rattle.html_read.specs.Values.{nodes_of}
use Rattle.dom_store.specs.Building.{IsFilledFrom, added_under}
use Rattle.dom_store.specs.State.{state_of}
use Rattle.dom_store.proofs.document.Document.add_each.Given as goal

abbrev pub invariant-loop-children : goal.invariant-loop-children
invariant-loop-children l = record {
  more : l.first ≤ l.self.next;
  within : l.self.next ≤ l.first + length l.fn.lists.items;
  rest : l.children-iterator.rest.items ≡ drop (l.self.next - l.first) l.fn.lists.items;
  filled : IsFilledFrom (added_under (state_of l.initial.self) l.parent (nodes_of l.nodes) (map (λ own. own.items) l.styles)) (state_of l.self);
}
