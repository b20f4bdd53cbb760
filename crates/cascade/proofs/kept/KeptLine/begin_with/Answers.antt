use Rattle.std.proofs.Common.{rules, ◌-◌, arith}
use Rattle.cascade.specs.Kept.{kept_state}
use Rattle.cascade.proofs.Keeping.{with_first}
use Rattle.cascade.proofs.Sets.{with_first_are_of}
use Rattle.cascade.proofs.kept.KeptLine.begin_with.Goals as goal

pub returns-clause-kept : goal.returns-clause-kept
returns-clause-kept c =
    let kept = c.args.self.now in (
      omega (arith, c.requires.kept.0),
      search rules,
      rw c.put-2.ensures
          (with_first (kept_state kept) kept.nodes kept.numbers kept.start (kept.start - 1) c.args.number _ (omega (arith, c.if-self-eq0.false)) (omega (arith, c.requires.kept.0, c.requires.kept.1, c.if-self-eq0.false)) (search rules) c.requires.here c.requires.under c.requires.kept.2),
      rw c.put-2.ensures
          (with_first_are_of kept.sets c.put.new.self kept.nodes kept.start (kept.start - 1) _ (omega (arith, c.if-self-eq0.false)) c.requires.kept.0 c.requires.kept.1 c.put.ensures.others c.put.ensures.placed c.requires.kept.3),
    )
