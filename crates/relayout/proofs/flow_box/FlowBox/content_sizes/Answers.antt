use Rattle.std.proofs.Common.{◌∙◌}
use Rattle.box_gen.specs.Tree.{content_of}
use Rattle.relayout.proofs.StepLaws.{content_is}
use Rattle.relayout.proofs.flow_box.FlowBox.content_sizes.Goals as goal

pub returns-clause-value : goal.returns-clause-value
returns-clause-value c = λ faces handed members ready are.
    let own = c.args.self.now in
    content_is faces own.node.now.style (content_of own.node.now.content) handed members c.in_ok-sizes.sizes c.deref-2.result.now
    (c.in_ok-sizes.ensures.value faces own.node.now.style ready) (c.deref-2.ensures.value ∙ (rw c.deref.ensures at (c.in_ok-made.ensures.value handed members are)))
