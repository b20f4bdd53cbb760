use Rattle.std.proofs.Common.{◌≡◌, ◌++◌}
use Rattle.generator.specs.Generator as spec
use Rattle.generator.proofs.generator.push_edits.Given as goal

abbrev pub invariant-loop-k : goal.invariant-loop-k
invariant-loop-k l = l.input.items ≡ l.fn.input.items ++ spec.pieces spec.edit l.k
