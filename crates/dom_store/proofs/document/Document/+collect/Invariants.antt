use Rattle.std.proofs.Common.{◌≡◌, ◌+◌, ◌*◌, ◌++◌, take}
use Rattle.std.specs.Prelude.{flat_map}
use Rattle.dom_store.specs.Standing.{below_levels}
use Rattle.dom_store.specs.State.{state_of}
use Rattle.dom_store.proofs.document.Document.+collect.Given as goal

abbrev pub decreases-collect : goal.decreases-collect
decreases-collect l = 2 * l.levels

abbrev pub decreases-collect_all : goal.decreases-collect_all
decreases-collect_all l = 2 * l.levels + 1

abbrev pub invariant-collect_all-loop-n : goal.invariant-collect_all-loop-n
invariant-collect_all-loop-n l = l.found.items ≡ l.fn.found.items ++ flat_map (below_levels l.skipped l.levels (state_of l.self)) (take l.n-index l.numbers)
