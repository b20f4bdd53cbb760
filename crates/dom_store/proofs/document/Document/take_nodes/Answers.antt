use Rattle.std.proofs.Common.{◌≡◌, ◌∙◌, ◌++◌, ℕ, List, ap}
use Rattle.std.specs.Prelude.{flat_map}
use Rattle.dom_store.specs.Edits.{without_nodes}
use Rattle.dom_store.specs.Standing.{inclusive_descendants}
use Rattle.dom_store.specs.State.{state_of}
use Rattle.dom_store.proofs.document.Document.take_nodes.Goals as goal

pub returns : goal.returns
returns c =
    let old = state_of c.args.self.now in
    let numbers = c.args.numbers.now in
    let below = flat_map (inclusive_descendants old) numbers in
    let gone : c.deref.result.now ≡ below = c.deref.ensures.value ∙ (c.in_ok-collect_all.ensures ∙ ap (λ (l : List ℕ). l ++ below) c.new-gone.ensures.items) in
    (c.take_all_out.ensures ∙ (ap (λ (l : List ℕ). without_nodes l (state_of c.drop_named.new.self)) gone ∙ ap (without_nodes below) c.in_ok-drop_named.ensures.dropped), c.in_ok-elements.ensures)
