use Rattle.std.proofs.Common.{◌∙◌, sym, arith}
use Rattle.basic_laws.proofs.Numbers.{abs_add, sum_held, sum_fits}
use Rattle.block_flow.proofs.Steps.{placed_apart}
use Rattle.block_flow.proofs.reached.Reached.place.Goals as goal

pub overflow_add-result : goal.overflow_add-result
overflow_add-result c =
    let near = c.gap.ensures.near in
    let room = c.requires in
    sum_fits c.args.self.y c.gap.result (omega arith) (omega arith)

pub returns-else-self-clause-place : goal.returns-else-self-clause-place
returns-else-self-clause-place c = λ progress next at is.
    let near = c.gap.ensures.near in
    let room = c.requires in
    placed_apart progress next c.args.self.y c.gap.result _ (sym at.joined ∙ c.if-self.false) at.y
    (c.gap.ensures.gap progress.pending next.start_margins at.pending is.start)
    (sum_held c.args.self.y c.gap.result (omega arith) (omega arith))

pub returns-else-self-clause-near : goal.returns-else-self-clause-near
returns-else-self-clause-near c =
    let near = c.gap.ensures.near in
    let room = c.requires in
    let e = sum_held c.args.self.y c.gap.result (omega arith) (omega arith) in
    let s = abs_add c.args.self.y c.gap.result in
    rw e (omega arith)
