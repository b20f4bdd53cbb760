use Rattle.std.proofs.Common.{◌∙◌, ◌++◌, List, [], ◌∷◌, ap, get_or}
use Rattle.std.specs.Prelude.{filter_map}
use Rattle.dom_store.specs.Exact.{NumberedOf}
use Rattle.dom_store.specs.State.{state_of}
use Rattle.dom_store.specs.Steps.{numbered_of}
use Rattle.dom_store.proofs.StepLaws.{next_numbered}
use Rattle.dom_store.proofs.document.Document.numbered_below.Goals as goal

pub loop-number-preserved : goal.loop-number-preserved
loop-number-preserved c =
    let state = state_of c.args.self.now in
    let numbers = c.deref-number-items.result.now in
    let at = c.loop-number.number-index in
    c.in_ok-push_numbered.ensures
    ∙ (ap (λ (l : List NumberedOf). l ++ filter_map (numbered_of state) (get_or numbers at 0 ∷ [])) c.loop-number.invariant ∙ next_numbered state numbers at c.loop-number-test.true)
