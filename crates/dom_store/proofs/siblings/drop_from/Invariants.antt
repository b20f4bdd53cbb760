use Rattle.std.proofs.Common.{◌≡◌, length}
use Rattle.dom_store.specs.Edits.{without}
use Rattle.dom_store.proofs.siblings.drop_from.Given as goal

abbrev pub invariant-loop-place : goal.invariant-loop-place
invariant-loop-place l = without l.number l.children.items ≡ without l.number l.initial.children.items

abbrev pub decreases-loop-place : goal.decreases-loop-place
decreases-loop-place l = length l.children.items
