use Rattle.std.proofs.Common.{◌≡◌, map, take}
use Rattle.dom_store.specs.Edits.{without_nodes}
use Rattle.dom_store.specs.State.{state_of}
use Rattle.dom_store.proofs.document.Document.take_each_out.Given as goal

abbrev pub invariant-loop-node : goal.invariant-loop-node
invariant-loop-node l = state_of l.self ≡ without_nodes (map (λ node. node.number) (take l.node-index l.nodes)) (state_of l.initial.self)
