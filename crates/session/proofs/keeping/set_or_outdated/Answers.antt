use Rattle.std.proofs.Common.{subst, sym, Some}
use Rattle.std.specs.String.{string_bytes}
use Rattle.dom_store.specs.Edits.{after, set_text}
use Rattle.dom_store.specs.State.{State}
use Rattle.session.specs.Found.{GoOn}
use Rattle.session.specs.Setting.{CanSet}
use Rattle.session.specs.declared.keeping.KeptBoxes.TheVariants.{Current, Former}
use Rattle.session.specs.declared.planting.Rooted.{Rooted}
use Rattle.session.proofs.GoingOn.{goes_former}
use Rattle.session.proofs.keeping.set_or_outdated.Goals as goal

pub returns-then-set_in : goal.returns-then-set_in
returns-then-set_in c = c.set_in.ensures.set c.if-set_in.true

pub returns-else-set_in : goal.returns-else-set_in
returns-else-set_in c =
    let letters = string_bytes c.args.text.now in
    let Is = λ (state : State). CanSet state c.args.node letters in
    let next = λ (state : State). after state (set_text c.args.node letters) in
    subst (λ (made : Rooted). GoOn Is next (Some (Current c.args.made)) (Some (Former made))) (sym (c.set_in.ensures.not c.if-set_in.false)) (goes_former Is next c.args.made)
