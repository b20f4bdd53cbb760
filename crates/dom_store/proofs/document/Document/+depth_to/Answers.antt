use Rattle.std.proofs.Common.{◌≡◌, ◌∙◌, ℕ, ◌-◌, ◌∷◌, length, ap, sym, arith, Option}
use Rattle.dom_store.specs.State.{state_of}
use Rattle.dom_store.specs.Standing.{ancestors_to, parent_at}
use Rattle.dom_store.proofs.StandLaws.{up_none, up_some, up_zero}
use Rattle.dom_store.proofs.document.Document.+depth_to.Goals as goal

pub returns-then-most-eq0-clause-value : goal.returns-then-most-eq0-clause-value
returns-then-most-eq0-clause-value t c =
    let state = state_of c.args.self.now in
    sym (ap (λ (most : ℕ). length (ancestors_to most state c.args.n)) c.if-most-eq0.true ∙ ap length (up_zero state c.args.n))

pub returns-in-Some-clause-value : goal.returns-in-Some-clause-value
returns-in-Some-clause-value t c =
    let state = state_of c.args.self.now in
    let most = c.args.most in
    let number = c.in-Some.number in
    let line : ancestors_to most state c.args.n ≡ number ∷ ancestors_to (most - 1) state (parent_at state number) = ap (ancestors_to most state) c.in-Some.is ∙ up_some most state number (omega (arith, c.if-most-eq0.false)) in
    let above : c.depth_to.result ≡ length (ancestors_to (most - 1) state (parent_at state number)) = c.depth_to.ensures.value ∙ ap (λ (o : Option ℕ). length (ancestors_to (most - 1) state o)) c.parent.ensures in
    let all : length (ancestors_to most state c.args.n) ≡ length (number ∷ ancestors_to (most - 1) state (parent_at state number)) = ap length line in
    omega (arith, all, above)

pub returns-in-None-clause-value : goal.returns-in-None-clause-value
returns-in-None-clause-value t c =
    let state = state_of c.args.self.now in
    sym (ap (λ (o : Option ℕ). length (ancestors_to c.args.most state o)) c.in-None.is ∙ ap length (up_none c.args.most state))
