use Rattle.dom_store.specs.State.{state_of}
use Rattle.dom_store.proofs.InsertLaws.{Goes}
use Rattle.dom_store.proofs.document.Document.give_back.Given as goal

abbrev pub invariant-loop-n : goal.invariant-loop-n
invariant-loop-n l = Goes (state_of l.initial.self) (state_of l.self) l.first l.n
