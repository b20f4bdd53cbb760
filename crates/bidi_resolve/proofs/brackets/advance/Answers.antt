use Rattle.std.proofs.Common.{◌≡◌, ◌∙◌, ap, arith, ℕ, take}
use Rattle.bidi_resolve.specs.Brackets.{context}
use Rattle.bidi_resolve.proofs.brackets.advance.Goals as goal

pub returns-clause-last : goal.returns-clause-last
returns-clause-last c = λ sos e.
    let past = c.loop-i-test.false in
    let high = c.loop-i.auto.i-end in
    let seen = c.requires.seen in
    let is : c.loop-i.i ≡ c.args.place = omega arith in
    c.loop-i.invariant sos e ∙ ap (λ (n : ℕ). context sos (take n c.args.classes.now)) is
