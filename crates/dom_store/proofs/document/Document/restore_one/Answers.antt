use Rattle.std.proofs.Common.{◌∙◌, Some}
use Rattle.std.proofs.lemmas.Result.{on_ok_weaker, on_err_weaker}
use Rattle.dom_store.specs.Exact.{numbered_as}
use Rattle.dom_store.specs.State.{state_of, what_of}
use Rattle.dom_store.proofs.InsertLaws.{on_err}
use Rattle.dom_store.proofs.RestoreLaws.{same_all, same_node, stands_last}
use Rattle.dom_store.proofs.document.Document.restore_one.Goals as goal

pub returns-in_err-put-clause-others : goal.returns-in_err-put-clause-others
returns-in_err-put-clause-others c = on_err c.from_residual-in_err-put.result (same_all _ (state_of c.args.self.now) (state_of c.put.new.self) c.in_err-put.ensures.same)

pub returns-then-node-parent-clause-others : goal.returns-then-node-parent-clause-others
returns-then-node-parent-clause-others c = on_err c.put_end.result (same_node c.args.node.now.number _ (state_of c.args.self.now) (state_of c.put.new.self) c.in_ok-put.ensures.put)

pub returns-else-node-parent-clause-stand : goal.returns-else-node-parent-clause-stand
returns-else-node-parent-clause-stand c =
    let node = c.args.node.now in
    on_ok_weaker c.put_last.result (λ last.
    stands_last c.args.parent (numbered_as node) (record { parent = Some node.parent; children = c.new.result.items; what = what_of c.in_ok-kind.kind }) (state_of c.args.self.now) (state_of c.put.new.self) (state_of c.put_last.new.self) c.if-node-parent.false
    (λ k. record { parent = Some node.parent; children = c.new.ensures.items k; what = c.in_ok-kind.ensures k }) c.in_ok-put.ensures.put last) c.put_last.ensures.put

pub returns-else-node-parent-clause-others : goal.returns-else-node-parent-clause-others
returns-else-node-parent-clause-others c =
    on_err_weaker c.put_last.result (λ same. same_node c.args.node.now.number _ (state_of c.args.self.now) (state_of c.put_last.new.self) (same ∙ c.in_ok-put.ensures.put)) c.put_last.ensures.same
