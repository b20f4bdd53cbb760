use Rattle.std.proofs.Common.{◌≡◌, ◌++◌}
use Rattle.generator.specs.Generator as spec
use Rattle.generator.proofs.generator.push_words.Given as goal

abbrev pub invariant-loop : goal.invariant-loop
invariant-loop l = l.input.items ≡ l.fn.input.items ++ spec.words l.counter
