use Rattle.std.proofs.Common.{◌∙◌, sym, arith}
use Rattle.std.proofs.lemmas.Int.{ints, clamps}
use Rattle.basic_laws.proofs.Numbers.{abs_add, sum_held}
use Rattle.block_flow.proofs.Steps.{extent_apart, pair_span}
use Rattle.block_flow.proofs.reached.Reached.extent.Goals as goal

pub returns-else-self-clause-extent : goal.returns-else-self-clause-extent
returns-else-self-clause-extent c = λ progress at.
    let v = pair_span c.args.self.pending c.value.result c.value.ensures.sum in
    let room = c.requires in
    let s = sum_held c.args.self.y c.value.result (omega arith) (omega arith) in
    let a = abs_add c.args.self.y c.value.result in
    let m = c.max-else-self.ensures.value in
    rw c.if-end_joins.false (extent_apart progress c.args.self.y c.value.result _ (sym at.joined ∙ c.if-self.false) at.y
    (c.value.ensures.list progress.pending at.pending)
    (omega (arith, ints, clamps)))

pub returns-else-self-clause-near : goal.returns-else-self-clause-near
returns-else-self-clause-near c =
    let v = pair_span c.args.self.pending c.value.result c.value.ensures.sum in
    let room = c.requires in
    let s = sum_held c.args.self.y c.value.result (omega arith) (omega arith) in
    let a = abs_add c.args.self.y c.value.result in
    let m = c.max-else-self.ensures.value in
    omega (arith, ints, clamps)
