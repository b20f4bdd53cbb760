use Rattle.std.proofs.Common.{◌≡◌, take}
use Rattle.dom_store.specs.Edits.{without_nodes}
use Rattle.dom_store.specs.State.{state_of}
use Rattle.dom_store.proofs.document.Document.take_all_out.Given as goal

abbrev pub invariant-loop-n : goal.invariant-loop-n
invariant-loop-n l = state_of l.self ≡ without_nodes (take l.n-index l.numbers) (state_of l.initial.self)
