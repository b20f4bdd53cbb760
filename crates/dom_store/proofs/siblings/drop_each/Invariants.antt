use Rattle.std.proofs.Common.{◌≡◌, take}
use Rattle.dom_store.specs.Exact.{without_each}
use Rattle.dom_store.proofs.siblings.drop_each.Given as goal

-- those that were looked at are no more among them
abbrev pub invariant-loop-number : goal.invariant-loop-number
invariant-loop-number l = l.children.items ≡ without_each (take l.number-index l.numbers) l.initial.children.items
