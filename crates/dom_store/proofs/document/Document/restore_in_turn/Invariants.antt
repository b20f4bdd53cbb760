use Rattle.std.proofs.Common.{map}
use Rattle.dom_store.specs.Exact.{numbered_as}
use Rattle.dom_store.specs.State.{state_of}
use Rattle.dom_store.proofs.RestoreLaws.{Restores}
use Rattle.dom_store.proofs.document.Document.restore_in_turn.Given as goal

abbrev pub invariant-loop-node : goal.invariant-loop-node
invariant-loop-node l = Restores l.parent (map numbered_as l.nodes) l.node-index (state_of l.initial.self) (state_of l.self) l.initial.tops.items l.tops.items
