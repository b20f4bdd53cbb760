-- Edits that are done, and edits that are refused.
use Rattle.std.proofs.Common.{◌≡◌, ◌∙◌, ℕ, List, refl, ap, sym, Option, Some, None, Result, Ok, Err, inl, inr}
use Rattle.std.specs.Result.{IsErrAnd}
use Rattle.dom_store.specs.declared.edit.Change.{Change}
use Rattle.dom_store.specs.declared.error.EditError.{EditError}
use Rattle.dom_store.specs.declared.error.EditError.TheVariants.{Memory}
use Rattle.dom_store.specs.State.{State}
use Rattle.dom_store.specs.Edits.{EditOf, after, concerned}
use Rattle.dom_store.specs.Refusals.{refusal}
use Rattle.dom_store.specs.Edited.{Applies, accepted, edited, refused, unless}

-- an edit that isn't refused is done
pub accepts : (old new : State) (edit : EditOf) (elements : List ℕ) → None ≡ refusal old edit → elements ≡ concerned old edit → new ≡ after old edit → edited old edit ≡ accepted new elements
accepts old new edit elements none is done =
    ap (λ (r : Option EditError). unless r (after old edit) (concerned old edit)) (sym none)
    ∙ (ap (λ (l : List ℕ). accepted (after old edit) l) (sym is) ∙ ap (λ (s : State). accepted s elements) (sym done))

-- an edit that is refused changes nothing
pub refuses : (old : State) (edit : EditOf) (error : EditError) (answer : Result Change EditError) → IsErrAnd answer (λ e. e ≡ error) → Some error ≡ refusal old edit → Applies old old edit answer
refuses old edit error (Ok change) is some = absurd is
refuses old edit error (Err e) is some = (inr (ap (λ (r : Option EditError). unless r (after old edit) (concerned old edit)) (sym some) ∙ ap refused (sym is)), refl)

-- the same, where a document was changed in memory alone
pub runs_out_same : (old new : State) (edit : EditOf) (answer : Result Change EditError) → IsErrAnd answer (λ e. e ≡ Memory) → new ≡ old → Applies old new edit answer
runs_out_same old new edit (Ok change) is same = absurd is
runs_out_same old new edit (Err e) is same = (inl is, same)
