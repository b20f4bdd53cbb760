use Rattle.std.proofs.Common.{◌∙◌, ap}
use Rattle.std.proofs.lemmas.Result.{on_err_weaker}
use Rattle.dom_store.specs.State.{state_of}
use Rattle.dom_store.specs.Taking.{up_to}
use Rattle.dom_store.proofs.BackLaws.{given_back}
use Rattle.dom_store.proofs.document.Document.place_added.Goals as goal

pub returns-then-is_err-clause-gone : goal.returns-then-is_err-clause-gone
returns-then-is_err-clause-gone c =
    let mid = state_of c.put_in-placed.new.self in
    on_err_weaker c.put_in-placed.result (λ same.
    given_back mid (state_of c.give_back.new.self) c.args.first c.give_back.ensures.filled c.give_back.ensures.next ∙ ap (up_to c.args.first) same) c.put_in-placed.ensures.same
