use Rattle.std.proofs.Common.{◌≡◌, ◌+◌, ◌++◌, drop, map}
use Rattle.html_read.specs.Values.{nodes_of}
use Rattle.dom_store.specs.Edits.{under}
use Rattle.dom_store.specs.Exact.{numbered_as}
use Rattle.dom_store.specs.Steps.{numbered_from}
use Rattle.dom_store.proofs.document.Document.numbered_new.Given as goal

abbrev pub invariant-loop-place : goal.invariant-loop-place
invariant-loop-place l =
    let placed = under l.parent l.first (nodes_of l.nodes) in
    let own = map (λ own. own.items) l.styles in
    map numbered_as l.numbered.items ++ numbered_from (l.first + l.place) (drop l.place placed) (drop l.place own) ≡ numbered_from l.first placed own
