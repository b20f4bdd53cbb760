use Rattle.std.proofs.Common.{◌≡◌, ◌∙◌, ap, subst, sym, Option, Some, None}
use Rattle.std.specs.String.{string_bytes}
use Rattle.dom_store.specs.Edits.{after, set_text}
use Rattle.dom_store.specs.State.{State}
use Rattle.session.specs.Found.{GoOn}
use Rattle.session.specs.Setting.{CanSet}
use Rattle.session.specs.declared.keeping.KeptBoxes.{KeptBoxes}
use Rattle.session.specs.declared.keeping.KeptBoxes.TheVariants.{Current, Former}
use Rattle.session.proofs.GoingOn.{stays_former, stays_none}
use Rattle.session.proofs.keeping.with_text.Goals as goal

pub returns-in-Some-Current : goal.returns-in-Some-Current
returns-in-Some-Current c =
    let letters = string_bytes c.args.text.now in
    let Is = λ (state : State). CanSet state c.args.node letters in
    let next = λ (state : State). after state (set_text c.args.node letters) in
    let is : c.args.boxes ≡ Some (Current c.in-Some-Current.made) = c.in-Some-Current.is ∙ ap (λ (boxes : KeptBoxes). Some boxes) c.in-Some-Current.field-0-is in
    subst (λ (boxes : Option KeptBoxes). GoOn Is next boxes (Some c.set_or_outdated.result)) (sym is) c.set_or_outdated.ensures

pub returns-in-Some-Former : goal.returns-in-Some-Former
returns-in-Some-Former c =
    let letters = string_bytes c.args.text.now in
    let Is = λ (state : State). CanSet state c.args.node letters in
    let next = λ (state : State). after state (set_text c.args.node letters) in
    let is : c.args.boxes ≡ Some (Former c.in-Some-Former.made) = c.in-Some-Former.is ∙ ap (λ (boxes : KeptBoxes). Some boxes) c.in-Some-Former.field-0-is in
    subst (λ (boxes : Option KeptBoxes). GoOn Is next boxes (Some (Former c.in-Some-Former.made))) (sym is) (stays_former Is next c.in-Some-Former.made)

pub returns-in-None : goal.returns-in-None
returns-in-None c =
    let letters = string_bytes c.args.text.now in
    let Is = λ (state : State). CanSet state c.args.node letters in
    let next = λ (state : State). after state (set_text c.args.node letters) in
    subst (λ (boxes : Option KeptBoxes). GoOn Is next boxes None) (sym c.in-None.is) (stays_none Is next)
