use Rattle.std.proofs.Common.{◌≡◌, length}
use Rattle.bidi_explicit.specs.Explicit.{below_isolate}
use Rattle.bidi_explicit.specs.Stack.{stacked}
use Rattle.bidi_explicit.proofs.machine.pop_isolate.Given as goal

abbrev pub invariant-loop-entry : goal.invariant-loop-entry
invariant-loop-entry l = record {
  stack : below_isolate l.machine.top (stacked l.machine.below) ≡ below_isolate l.fn.machine.top (stacked l.fn.machine.below);
  overflow_isolates : l.machine.overflow_isolates ≡ l.fn.machine.overflow_isolates;
  overflow_embeddings : l.machine.overflow_embeddings ≡ l.fn.machine.overflow_embeddings;
  valid_isolates : l.machine.valid_isolates ≡ l.fn.machine.valid_isolates;
}

abbrev pub decreases-loop-entry : goal.decreases-loop-entry
decreases-loop-entry l = length (stacked l.machine.below)
