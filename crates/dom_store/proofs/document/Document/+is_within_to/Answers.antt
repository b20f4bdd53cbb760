use Rattle.std.proofs.Common.{◌≡◌, ◌∙◌, ℕ, ◌-◌, Bool, ◌∷◌, ap, sym, arith, Option, inl, inr}
use Rattle.std.specs.Prelude.{nat_eq, ◌||◌}
use Rattle.std.specs.List.{list_any}
use Rattle.std.proofs.lemmas.Bool.Decides.{eqb_tells}
use Rattle.dom_store.specs.State.{state_of}
use Rattle.dom_store.specs.Standing.{ancestors_to, parent_at}
use Rattle.dom_store.proofs.StandLaws.{up_none, up_some, up_zero}
use Rattle.dom_store.proofs.document.Document.+is_within_to.Goals as goal

pub returns-then-most-eq0 : goal.returns-then-most-eq0
returns-then-most-eq0 t c =
    let state = state_of c.args.self.now in
    let test = nat_eq c.args.ancestor in
    sym (ap (λ (most : ℕ). list_any test (ancestors_to most state c.args.n)) c.if-most-eq0.true ∙ ap (list_any test) (up_zero state c.args.n))

pub returns-then-ancestor-number : goal.returns-then-ancestor-number
returns-then-ancestor-number t c =
    let state = state_of c.args.self.now in
    let test = nat_eq c.args.ancestor in
    let number = c.in-Some.number in
    let rest = ancestors_to (c.args.most - 1) state (parent_at state number) in
    let line : ancestors_to c.args.most state c.args.n ≡ number ∷ rest = ap (ancestors_to c.args.most state) c.in-Some.is ∙ up_some c.args.most state number (omega (arith, c.if-most-eq0.false)) in
    elim (eqb_tells c.args.ancestor number) [
      | inl (here, same) ↦ here ∙ sym (ap (list_any test) line ∙ ap (λ (b : Bool). b || list_any test rest) here)
      | inr (there, apart) ↦ absurd (apart c.if-ancestor-number.true)
    ]

pub returns-else-ancestor-number : goal.returns-else-ancestor-number
returns-else-ancestor-number t c =
    let state = state_of c.args.self.now in
    let test = nat_eq c.args.ancestor in
    let number = c.in-Some.number in
    let rest = ancestors_to (c.args.most - 1) state (parent_at state number) in
    let line : ancestors_to c.args.most state c.args.n ≡ number ∷ rest = ap (ancestors_to c.args.most state) c.in-Some.is ∙ up_some c.args.most state number (omega (arith, c.if-most-eq0.false)) in
    let above : c.is_within_to.result ≡ list_any test rest = c.is_within_to.ensures ∙ ap (λ (o : Option ℕ). list_any test (ancestors_to (c.args.most - 1) state o)) c.parent.ensures in
    elim (eqb_tells c.args.ancestor number) [
      | inl (here, same) ↦ absurd (c.if-ancestor-number.false same)
      | inr (there, apart) ↦ above ∙ sym (ap (list_any test) line ∙ ap (λ (b : Bool). b || list_any test rest) there)
    ]

pub returns-in-None : goal.returns-in-None
returns-in-None t c =
    let state = state_of c.args.self.now in
    let test = nat_eq c.args.ancestor in
    sym (ap (λ (o : Option ℕ). list_any test (ancestors_to c.args.most state o)) c.in-None.is ∙ ap (list_any test) (up_none c.args.most state))
