use Rattle.std.proofs.Common.{◌≡◌, map, take}
use Rattle.std.specs.Prelude.{filter_map}
use Rattle.dom_store.specs.Exact.{numbered_as}
use Rattle.dom_store.specs.State.{state_of}
use Rattle.dom_store.specs.Steps.{numbered_of}
use Rattle.dom_store.proofs.document.Document.numbered_below.Given as goal

abbrev pub invariant-loop-number : goal.invariant-loop-number
invariant-loop-number l = map numbered_as l.nodes.items ≡ filter_map (numbered_of (state_of l.self)) (take l.number-index l.number-items)
