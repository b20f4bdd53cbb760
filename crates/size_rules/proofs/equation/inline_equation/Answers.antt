use Rattle.std.proofs.Common.{arith}
use Rattle.std.proofs.lemmas.Int.{ints}
use Rattle.size_rules.proofs.Near.{near}
use Rattle.size_rules.proofs.Solved.{solved}
use Rattle.size_rules.proofs.equation.inline_equation.Goals as goal

pub returns-clause-value : goal.returns-clause-value
returns-clause-value c =
    let low = c.used_size-size.ensures.low in
    let high = c.used_size-size.ensures.high in
    solved c.args.available c.args.edges c.args.size c.args.min c.args.max c.args.start c.args.end _ c.asked.result _ _ c.used_size-size.result _ _ c.settled.result
    (omega (arith, ints)) c.asked.ensures (omega (arith, ints)) (omega (arith, ints)) c.used_size-size.ensures.value (omega (arith, ints)) (omega (arith, ints)) c.settled.ensures

pub returns-clause-start_near : goal.returns-clause-start_near
returns-clause-start_near c =
    let low = c.used_size-size.ensures.low in
    let high = c.used_size-size.ensures.high in
    (near c.args.available c.args.edges c.used_size-size.result c.args.start c.args.end _ _ c.settled.result (omega (arith, ints)) c.settled.ensures low high).0

pub returns-clause-end_near : goal.returns-clause-end_near
returns-clause-end_near c =
    let low = c.used_size-size.ensures.low in
    let high = c.used_size-size.ensures.high in
    (near c.args.available c.args.edges c.used_size-size.result c.args.start c.args.end _ _ c.settled.result (omega (arith, ints)) c.settled.ensures low high).1
