use Rattle.std.proofs.Common.{◌≡◌, ◌≤◌, List, ℕ, length, sym, subst, rules}
use Rattle.generator.specs.Generator.{gen_input}
use Rattle.generator.proofs.Short.{is_short}
use Rattle.generator.proofs.generator.gen_input.Goals as goal

pub returns-clause-short : goal.returns-clause-short
unfolding gen_input
returns-clause-short c =
    let bytes : c.extend_from_slice-2.new.self.items ≡ gen_input c.args.count = search rules in
    subst (λ (made : List ℕ). length made ≤ 1048576) (sym bytes) (is_short c.args.count c.requires.few)
