use Rattle.std.proofs.Common.{◌∙◌, ◌-◌, List, refl, sym, ap, subst, arith}
use Rattle.std.specs.Global.{Vec}
use Rattle.style_types.specs.declared.tree.StyledNode.{StyledNode}
use Rattle.style_types.specs.Tree.{all_nodes_of}
use Rattle.cascade.specs.Kept.{IsKept, kept_state}
use Rattle.style_tree.specs.Styling.{AreBounded}
use Rattle.style_tree.proofs.Joining.{bounded_all, bounded_rolled}
use Rattle.style_tree.proofs.Going.{IsGoing, starts, some_goes_on, none_goes_on, ends, used_up}
use Rattle.style_tree.proofs.styling.Styling.+node.Goals as goal
use Rattle.style_tree.proofs.styling.Styling.+node.Goals.{nodes-in-Some+in_ok-node+in_ok-push, nodes-in_default}

pub node-returns-clause-bounded : goal.node-returns-clause-bounded
node-returns-clause-bounded t c = bounded_rolled _ c.in_ok-style.ensures.bounded c.in_ok-children.ensures.bounded

pub nodes-returns-then-depth-eq0-clause-styled : goal.nodes-returns-then-depth-eq0-clause-styled
nodes-returns-then-depth-eq0-clause-styled t c = ap all_nodes_of c.new.ensures.items ∙ used_up _ _ _ _ c.args.depth c.if-depth-eq0.true

pub nodes-returns-then-depth-eq0-clause-bounded : goal.nodes-returns-then-depth-eq0-clause-bounded
unfolding AreBounded
nodes-returns-then-depth-eq0-clause-bounded t c = subst (λ (l : List StyledNode). AreBounded (all_nodes_of l)) (sym c.new.ensures.items) tt

pub nodes-loop-number-init : goal.nodes-loop-number-init
nodes-loop-number-init t c = (subst (IsGoing _ _ _ _ _ 0) (sym c.in_ok-all.ensures.items) (starts _ _ _ _ c.args.depth), c.requires.kept, refl)

pub nodes-loop-number-preserved : goal.nodes-loop-number-preserved
nodes-loop-number-preserved t c = elim c.match-node.branch [
  | nodes-in-Some+in_ok-node+in_ok-push w ↦ (some_goes_on _ _ _ _ c.args.depth (c.args.depth - 1) c.loop-number.number-index _ _ c.loop-number.all.items c.match-node.all.items _ (omega (arith, c.if-depth-eq0.false)) c.loop-number-test.true w.in-Some.ensures w.in_ok-node.ensures.styled w.in_ok-node.ensures.bounded (ap (λ (v : Vec StyledNode). v.items) w.all-is ∙ w.in_ok-push.ensures.items) c.loop-number.invariant.0, subst IsKept (sym w.kept-is) w.node-in-Some.ensures.kept, ap kept_state w.kept-is ∙ w.node-in-Some.ensures.same ∙ c.loop-number.invariant.2)
  | nodes-in_default w ↦ (none_goes_on _ _ _ _ c.args.depth (c.args.depth - 1) c.loop-number.number-index _ c.loop-number.all.items c.match-node.all.items (omega (arith, c.if-depth-eq0.false)) c.loop-number-test.true w.in_default.ensures (ap (λ (v : Vec StyledNode). v.items) w.all-is) c.loop-number.invariant.0, subst IsKept (sym w.kept-is) c.loop-number.invariant.1, ap kept_state w.kept-is ∙ c.loop-number.invariant.2)
]

pub nodes-returns-clause-styled : goal.nodes-returns-clause-styled
nodes-returns-clause-styled t c = ends _ _ _ _ c.args.depth c.loop-number.number-index c.loop-number.all.items c.loop-number-test.false c.loop-number.invariant.0

pub nodes-returns-clause-bounded : goal.nodes-returns-clause-bounded
nodes-returns-clause-bounded t c = bounded_all c.loop-number.all.items c.loop-number.invariant.0.bounded
