use Rattle.std.proofs.Common.{arith}
use Rattle.line_fill.proofs.Lengths.{gaps_held, gaps_fit}
use Rattle.line_fill.proofs.sums.Place.width.Goals as goal

pub overflow_add-result : goal.overflow_add-result
overflow_add-result c =
    let s = c.requires.start in
    let e = c.requires.end in
    let k = c.requires.content in
    gaps_fit c.args.end.edges c.args.self.edges c.args.content.advances c.args.self.advances (omega arith) (omega arith) (omega arith) (omega arith)

pub returns : goal.returns
returns c =
    let s = c.requires.start in
    let e = c.requires.end in
    let k = c.requires.content in
    gaps_held c.args.end.edges c.args.self.edges c.args.content.advances c.args.self.advances (omega arith) (omega arith) (omega arith) (omega arith)
