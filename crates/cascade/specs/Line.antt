-- The nodes of a line, without where they lie in memory.
use Rattle.std.specs.Prelude.{List, map}
use Rattle.std.specs.Borrow.{Bor}
use Rattle.dom_store.specs.declared.node.Node.{Node}
use Rattle.dom_store.specs.State.{What, what_of}

abbrev pub whats_of : List (Bor Node) → List What
whats_of nodes = map (λ n. what_of n.now.kind) nodes
