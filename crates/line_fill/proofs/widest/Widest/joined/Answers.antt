use Rattle.std.proofs.Common.{rules, ◌∙◌, arith, ap, sym, ◌+ℤ◌, w64, FitsSigned}
use Rattle.line_fill.specs.Widest.{joined, joined_at}
use Rattle.std.proofs.lemmas.Int.{to_z-of_z}
use Rattle.line_fill.proofs.Lengths.{sum_held, three_held, four_fit, five_held, five_fit, abs_add, abs_five}
use Rattle.line_fill.proofs.Widening.{widest_is}
use Rattle.line_fill.proofs.widest.Widest.joined.Goals as goal

pub overflow_add-result-else-item : goal.overflow_add-result-else-item
overflow_add-result-else-item c =
    let room = c.requires in
    four_fit c.args.item.before c.args.item.after c.args.self.hanging c.args.item.advance (omega arith) (omega arith) (omega arith) (omega arith)

pub overflow_add-result-else-item-2 : goal.overflow_add-result-else-item-2
overflow_add-result-else-item-2 c =
    let room = c.requires in
    five_fit c.args.self.width c.args.item.before c.args.item.after c.args.self.hanging c.args.item.advance (omega arith)

pub returns-then-item-clause-value : goal.returns-then-item-clause-value
returns-then-item-clause-value c =
    let room = c.requires in
    let fits : FitsSigned w64 c.args.self.most = search rules in
    widest_is _ _ _ (joined c.args.self c.args.item)
    (to_z-of_z w64 c.args.self.most fits ∙ sym (ap (λ b. (joined_at b c.args.self c.args.item).most) c.if-item.true))
    (three_held c.args.self.width c.args.item.before c.args.item.after (omega arith) (omega arith) (omega arith) ∙ sym (ap (λ b. (joined_at b c.args.self c.args.item).width) c.if-item.true))
    (sum_held c.args.self.hanging c.args.item.advance (omega arith) (omega arith) ∙ sym (ap (λ b. (joined_at b c.args.self c.args.item).hanging) c.if-item.true))

pub returns-then-item-clause-near : goal.returns-then-item-clause-near
returns-then-item-clause-near c =
    let room = c.requires in
    let w = three_held c.args.self.width c.args.item.before c.args.item.after (omega arith) (omega arith) (omega arith) in
    let h = sum_held c.args.self.hanging c.args.item.advance (omega arith) (omega arith) in
    let one = abs_add c.args.item.before c.args.item.after in
    let two = abs_add c.args.self.width (c.args.item.before +ℤ c.args.item.after) in
    let three = abs_add c.args.self.hanging c.args.item.advance in
    rw (w, h) (omega arith)

pub returns-else-item-clause-value : goal.returns-else-item-clause-value
returns-else-item-clause-value c =
    let room = c.requires in
    let fits : FitsSigned w64 c.args.self.most = search rules in
    widest_is _ _ _ (joined c.args.self c.args.item)
    (to_z-of_z w64 c.args.self.most fits ∙ sym (ap (λ b. (joined_at b c.args.self c.args.item).most) c.if-item.false))
    (five_held c.args.self.width c.args.item.before c.args.item.after c.args.self.hanging c.args.item.advance (omega arith) ∙ sym (ap (λ b. (joined_at b c.args.self c.args.item).width) c.if-item.false))
    (sym (ap (λ b. (joined_at b c.args.self c.args.item).hanging) c.if-item.false))

pub returns-else-item-clause-near : goal.returns-else-item-clause-near
returns-else-item-clause-near c =
    let room = c.requires in
    let w = five_held c.args.self.width c.args.item.before c.args.item.after c.args.self.hanging c.args.item.advance (omega arith) in
    let far = abs_five c.args.self.width c.args.item.before c.args.item.after c.args.self.hanging c.args.item.advance in
    rw w (omega arith)
