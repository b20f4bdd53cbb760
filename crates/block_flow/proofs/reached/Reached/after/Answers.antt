use Rattle.std.proofs.Common.{◌∙◌, refl, sym, arith, ◌++◌}
use Rattle.std.proofs.Math.Bool.{and-true}
use Rattle.basic_laws.proofs.Numbers.{number_held, sum_held, sum_fits}
use Rattle.block_flow.proofs.Steps.{moved_on, passed_over, both_span, pair_join}
use Rattle.block_flow.proofs.reached.Reached.after.Goals as goal

pub overflow_add-result : goal.overflow_add-result
overflow_add-result c =
    let room = c.requires in
    let near = c.place.ensures.near in
    sum_fits c.place.result c.args.child.size (omega arith) (omega arith)

pub returns-then-child-clause-reached : goal.returns-then-child-clause-reached
returns-then-child-clause-reached c = λ progress next at is.
    let room = c.requires in
    passed_over progress next _ (sym is.through ∙ c.if-child.true)
    (number_held c.args.self.y (omega arith) ∙ at.y)
    (c.join.ensures.lists progress.pending (next.start_margins ++ next.end_margins) at.pending (c.join-margins.ensures.lists next.start_margins next.end_margins is.start is.end_))
    at.joined
    (c.start_with.ensures.list progress (next.start_margins ++ next.end_margins) at (c.join-margins.ensures.lists next.start_margins next.end_margins is.start is.end_))

pub returns-then-child-clause-span : goal.returns-then-child-clause-span
returns-then-child-clause-span c =
    let room = c.requires in
    let y = number_held c.args.self.y (omega arith) in
    let s = both_span c.args.self.pending c.args.child.start c.args.child.end c.join-margins.result c.join.result
    c.join-margins.ensures.positive c.join-margins.ensures.negative c.join.ensures.positive c.join.ensures.negative in
    rw y (omega arith)

pub returns-then-child-clause-through : goal.returns-then-child-clause-through
returns-then-child-clause-through c = rw c.if-child.true (sym (and-true c.args.self.through))

pub returns-else-child-clause-reached : goal.returns-else-child-clause-reached
returns-else-child-clause-reached c = λ progress next at is.
    let room = c.requires in
    let near = c.place.ensures.near in
    moved_on progress next _ c.place.result c.args.child.size (sym is.through ∙ c.if-child.false)
    (c.place.ensures.place progress next at is) is.size
    (sum_held c.place.result c.args.child.size (omega arith) (omega arith))
    is.end_ refl
    (c.start_with-else-child.ensures.list progress next.start_margins at is.start)

pub returns-then-child-clause-start : goal.returns-then-child-clause-start
returns-then-child-clause-start c =
    let near = c.start_with.ensures.near in
    let s = pair_join c.args.child.start c.args.child.end c.join-margins.result c.join-margins.ensures.positive c.join-margins.ensures.negative in
    omega arith
