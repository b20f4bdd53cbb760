use Rattle.std.proofs.Common.{[], ◌∷◌, ◌∙◌, ℕ, List, ap, map, subst, sym}
use Rattle.std.proofs.lemmas.Result.{on_err_weaker}
use Rattle.dom_store.specs.Edits.{without_nodes}
use Rattle.dom_store.specs.Exact.{numbered_as}
use Rattle.dom_store.specs.Exactly.{IsSameBut}
use Rattle.dom_store.specs.State.{state_of}
use Rattle.dom_store.proofs.RestoreLaws.{all_out, numbers_as}
use Rattle.dom_store.proofs.document.Document.restore_each.Goals as goal

pub returns-then-is_err-clause-same : goal.returns-then-is_err-clause-same
returns-then-is_err-clause-same c =
    let old = state_of c.args.self.now in
    let mid = state_of c.restore_in_turn-restored.new.self in
    let nodes = map numbered_as c.args.nodes.now in
    on_err_weaker c.restore_in_turn-restored.result (λ others.
    c.take_each_out.ensures
    ∙ (ap (λ (l : List ℕ). without_nodes l mid) (sym (numbers_as c.args.nodes.now))
    ∙ all_out old (c.args.parent ∷ []) nodes c.requires.stand mid (subst (λ (l : List ℕ). IsSameBut l old mid) (sym (numbers_as c.args.nodes.now)) others))) c.restore_in_turn-restored.ensures.others
