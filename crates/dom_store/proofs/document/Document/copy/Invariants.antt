use Rattle.std.specs.Ordering.{nat_cmp}
use Rattle.std.specs.BTreeMap as keyed
use Rattle.dom_store.specs.State.{state_of}
use Rattle.dom_store.proofs.CopyLaws.{IsCopied}
use Rattle.dom_store.proofs.document.Document.copy.Given as goal

abbrev pub invariant-loop-number : goal.invariant-loop-number
invariant-loop-number l = IsCopied (keyed.get nat_cmp l.self.keys) (state_of l.self) l.number-iterator (state_of l.copy)
