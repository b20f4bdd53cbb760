use Rattle.std.proofs.Common.{◌∙◌, ap, map}
use Rattle.std.proofs.lemmas.Result.{on_err_weaker}
use Rattle.dom_store.specs.Edits.{without_nodes}
use Rattle.dom_store.proofs.document.Document.place_restored.Goals as goal

pub returns-then-is_err-clause-gone : goal.returns-then-is_err-clause-gone
returns-then-is_err-clause-gone c =
    on_err_weaker c.put_in-placed.result (λ same. c.take_each_out.ensures ∙ ap (without_nodes (map (λ node. node.number) c.args.nodes.now)) same) c.put_in-placed.ensures.same
