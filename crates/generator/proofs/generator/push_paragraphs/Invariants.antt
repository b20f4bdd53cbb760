use Rattle.std.proofs.Common.{◌≡◌, ◌++◌}
use Rattle.generator.specs.Generator as spec
use Rattle.generator.proofs.generator.push_paragraphs.Given as goal

abbrev pub invariant-loop-k : goal.invariant-loop-k
invariant-loop-k l = l.input.items ≡ l.fn.input.items ++ spec.pieces spec.paragraph l.k
