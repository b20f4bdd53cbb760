-- The state that the code's stack and counts stand for.
use Rattle.std.specs.Prelude.{ℕ, ◌+◌}
use Rattle.bidi_explicit.specs.declared.machine.Machine.{Machine}
use Rattle.bidi_explicit.specs.Explicit.{State}
use Rattle.bidi_explicit.specs.Stack.{stacked}

abbrev pub state_of : Machine → State
state_of m = record {
  top = m.top;
  below = stacked m.below;
  overflow_isolates = m.overflow_isolates;
  overflow_embeddings = m.overflow_embeddings;
  valid_isolates = m.valid_isolates;
}

-- the sum of the counts, which grows by one at each character at most
abbrev pub total : Machine → ℕ
total m = m.overflow_isolates + m.overflow_embeddings + m.valid_isolates
