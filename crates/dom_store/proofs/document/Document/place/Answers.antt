use Rattle.std.proofs.Common.{◌≡◌, ◌∙◌, ℕ, Option, ap}
use Rattle.std.specs.Prelude.{unwrap_or}
use Rattle.dom_store.specs.Standing.{children_at}
use Rattle.dom_store.specs.State.{state_of}
use Rattle.dom_store.specs.Steps.{holder, place_in}
use Rattle.dom_store.proofs.document.Document.place.Goals as goal

pub returns-clause-place : goal.returns-clause-place
returns-clause-place c =
    let state = state_of c.args.self.now in
    let parent : c.unwrap_or-parent.result ≡ holder state c.args.n = c.unwrap_or-parent.ensures ∙ ap (λ (o : Option ℕ). unwrap_or o 0) c.parent.ensures in
    c.place_or_end-place.ensures ∙ ap (place_in c.args.n) (c.children.ensures ∙ ap (children_at state) parent)
