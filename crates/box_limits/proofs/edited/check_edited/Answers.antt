use Rattle.std.proofs.lemmas.Result.{err_from_is_err_and}
use Rattle.dom_store.specs.State.{state_of}
use Rattle.cascade.specs.Index.{index_rules}
use Rattle.style_tree.specs.Styling.{styled_document}
use Rattle.box_limits.proofs.edited.check_edited.Goals as goal

pub returns-in_err-judged : goal.returns-in_err-judged
returns-in_err-judged c =
    let p = err_from_is_err_and c.from_residual-in_err-judged.result c.from_residual-in_err-judged.ensures.1 in
    let tree = styled_document (index_rules c.args.rules.now) (state_of c.args.document.now) in
    rw (p.1, p.2) (c.in_err-judged.ensures tree c.in_ok-found.ensures)
