use Rattle.std.proofs.Common.{◌+◌, ◌∙◌, ap, arith, drop}
use Rattle.style_types.specs.declared.style.Style.{Style}
use Rattle.style_types.specs.Tree.{all_nodes_of}
use Rattle.box_gen.specs.declared.found.Found.{Found}
use Rattle.box_gen.specs.Found.{both, found_from}
use Rattle.box_gen.proofs.Founds.{found_all, found_here, found_on}
use Rattle.box_gen.proofs.checked.+found.Goals as goal

pub found_in-loop-node-preserved : goal.found_in-loop-node-preserved
found_in-loop-node-preserved t c =
    let nodes = c.args.nodes.now in
    let i = c.loop-node.node-index in
    ap (λ (f : Found). both f (found_from c.args.site (all_nodes_of (drop (i + 1) nodes)))) c.and-found.ensures
    ∙ found_on c.args.site nodes i c.node-item.result c.loop-node.found c.found_at.result _ (omega arith) c.node-item.is c.found_at.ensures c.loop-node.invariant

pub found_in-returns : goal.found_in-returns
found_in-returns t c = found_all c.args.site c.args.nodes.now c.loop-node.node-index c.loop-node.found _ (omega arith) c.loop-node.invariant

pub found_at-returns : goal.found_at-returns
found_at-returns t c =
    found_here c.args.site c.args.node.now _ _ _ _ _ _ _ _ c.role_of-role.ensures (ap (λ (s : Style). s.mode) c.deref.ensures) c.is_past.ensures c.at-own.ensures
    c.in_node.ensures c.deref-2.ensures.value c.found_in.ensures c.and.ensures
