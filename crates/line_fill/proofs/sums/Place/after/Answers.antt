use Rattle.std.proofs.Common.{arith, ap, sym}
use Rattle.line_fill.specs.Sums.{solid_after}
use Rattle.line_fill.proofs.Lengths.{sum_held, three_held}
use Rattle.line_fill.proofs.Widths.{place_is}
use Rattle.line_fill.proofs.sums.Place.after.Goals as goal

pub returns-then-item : goal.returns-then-item
returns-then-item c =
    let near = c.requires in
    place_is _ _ _ _
    (three_held c.args.self.edges c.args.item.before c.args.item.after (omega arith) (omega arith) (omega arith))
    (sum_held c.args.self.advances c.args.item.advance (omega arith) (omega arith))
    (sym (ap (λ b. solid_after b c.args.self.solid c.args.count) c.if-item.true))

pub returns-else-item : goal.returns-else-item
returns-else-item c =
    let near = c.requires in
    place_is _ _ _ _
    (three_held c.args.self.edges c.args.item.before c.args.item.after (omega arith) (omega arith) (omega arith))
    (sum_held c.args.self.advances c.args.item.advance (omega arith) (omega arith))
    (sym (ap (λ b. solid_after b c.args.self.solid c.args.count) c.if-item.false))
