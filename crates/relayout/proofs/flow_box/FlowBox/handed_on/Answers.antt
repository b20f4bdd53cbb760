use Rattle.std.proofs.Common.{rules}
use Rattle.box_arena.specs.At.{node_of}
use Rattle.relayout.proofs.BoxedLaws.{handed_outer, handed_own}
use Rattle.relayout.proofs.flow_box.FlowBox.handed_on.Goals as goal

pub returns-then-self-eq0-clause-value : goal.returns-then-self-eq0-clause-value
returns-then-self-eq0-clause-value c =
    let own = c.args.self.now in
    let styled = c.contained_style.ensures in
    handed_own own.containing (node_of own.node.now) own.c c.definite.result (rw (styled.containing, styled.style, styled.sizes) at c.definite.ensures.value) (search rules)

pub returns-else-self-eq0-clause-value : goal.returns-else-self-eq0-clause-value
returns-else-self-eq0-clause-value c =
    let own = c.args.self.now in
    handed_outer own.containing (node_of own.node.now) own.c c.if-self-eq0.false
