-- What a stack holds, from its top on.
use Rattle.std.specs.Prelude.{List, reverse}
use Rattle.bidi_explicit.specs.declared.stack.Stack.{Stack}

abbrev pub stacked : {X : Type 0} → Stack X → List X
stacked stack = reverse stack.held.items
