use Rattle.std.proofs.Common.{rules, ◌∙◌, ap, w64, FitsSigned}
use Rattle.std.proofs.lemmas.Int.{to_z-of_z}
use Rattle.box_arena.specs.At.{node_of}
use Rattle.relayout.specs.Step.{definite_size}
use Rattle.relayout.proofs.StepLaws.{size_definite, size_held}
use Rattle.relayout.proofs.flow_box.FlowBox.inline_size.Goals as goal

pub returns-in-Some-clause-value : goal.returns-in-Some-clause-value
returns-in-Some-clause-value c = λ outside members seen ready unders.
    let own = c.args.self.now in
    let fits : FitsSigned w64 c.in-Some.size = search rules in
    c.definite_size.ensures.value ∙ ap (definite_size c.args.sizing.measures) (to_z-of_z w64 c.in-Some.size fits)
    ∙ size_definite outside own.containing (node_of own.node.now) own.c members c.args.sizing c.in-Some.size c.requires.sizing c.in-Some.is

pub returns-in_ok-content-in-None-clause-value : goal.returns-in_ok-content-in-None-clause-value
returns-in_ok-content-in-None-clause-value c = λ outside members seen ready unders.
    let own = c.args.self.now in
    c.size_by_content.ensures.value
    ∙ size_held outside own.containing (node_of own.node.now) own.c members c.args.sizing c.args.view c.in_ok-content-in-None.content c.requires.sizing c.in-None.is seen
    (c.in_ok-content-in-None.ensures.value outside.faces c.args.sizing.handed members ready (unders c.in-None.is))
