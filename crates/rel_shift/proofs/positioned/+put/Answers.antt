use Rattle.std.proofs.Common.{◌∙◌, ◌++◌, ap, sym, refl, append-nil, arith, List}
use Rattle.style_types.specs.declared.position.Position.{Position}
use Rattle.rel_shift.proofs.Listed.{of_hidden, of_shown, put_all, put_both, put_more}
use Rattle.rel_shift.proofs.positioned.+put.Goals as goal

pub put_node-returns-then-is_hidden : goal.put_node-returns-then-is_hidden
put_node-returns-then-is_hidden t c =
    sym (ap (λ (l : List Position). c.args.made.now.items ++ l) (of_hidden c.args.around.parent c.args.around.holder c.args.node.now c.role_of-role.result c.role_of-role.ensures (sym c.is_hidden.ensures ∙ c.if-is_hidden.true)) ∙ append-nil _)

pub put_node-returns : goal.put_node-returns
put_node-returns t c =
    put_both c.args.made.now.items c.push.new.self.items c.put_nodes.new.made.items _ _ c.position.result c.in_ok-push.ensures.items c.in_ok-put_nodes.ensures
    (of_shown c.args.around.parent c.args.around.holder c.args.node.now c.role_of-role.result c.position.result _ c.holder_in.result c.deref.result.now c.role_of-role.ensures (sym c.is_hidden.ensures ∙ c.if-is_hidden.false)
    c.position.ensures refl c.holder_in.ensures c.deref.ensures.value)

pub put_nodes-loop-node-preserved : goal.put_nodes-loop-node-preserved
put_nodes-loop-node-preserved t c =
    put_more c.args.around.parent c.args.around.holder c.args.nodes.now c.loop-node.node-index c.node-item.result c.loop-node.made.items c.put_node.new.made.items _ (omega arith) c.node-item.is
    c.in_ok-put_node.ensures c.loop-node.invariant

pub put_nodes-returns : goal.put_nodes-returns
put_nodes-returns t c = put_all c.args.around.parent c.args.around.holder c.args.nodes.now c.loop-node.node-index c.loop-node.made.items _ (omega arith) c.loop-node.invariant
