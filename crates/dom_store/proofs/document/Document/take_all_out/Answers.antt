use Rattle.std.proofs.Common.{◌∙◌, [], ◌∷◌, get_or, ap}
use Rattle.dom_store.specs.Edits.{without_nodes}
use Rattle.dom_store.specs.State.{state_of}
use Rattle.dom_store.proofs.RemoveLaws.{none_out, out_next}
use Rattle.dom_store.proofs.document.Document.take_all_out.Goals as goal

pub loop-n-init : goal.loop-n-init
loop-n-init c = none_out (state_of c.args.self.now)

pub loop-n-preserved : goal.loop-n-preserved
loop-n-preserved c =
    let number = get_or c.args.numbers.now c.loop-n.n-index 0 in
    c.take_out.ensures ∙ (ap (without_nodes (number ∷ [])) c.loop-n.invariant ∙ out_next c.args.numbers.now c.loop-n.n-index (state_of c.args.self.now) c.loop-n-test.true)
