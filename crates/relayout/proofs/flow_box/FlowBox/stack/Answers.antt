use Rattle.std.proofs.Common.{rules, ◌∙◌, ap, subst, false, map, w64}
use Rattle.std.proofs.lemmas.Int.{to_z-of_z}
use Rattle.block_flow.specs.declared.boxes.ParentEdges.{ParentEdges}
use Rattle.block_flow.specs.Adjoining.{edges}
use Rattle.relayout.specs.Boxed.{block_box}
use Rattle.relayout.specs.Flowed.{as_laid}
use Rattle.relayout.specs.Sizes.{containing_of}
use Rattle.relayout.proofs.LaidLaws.{Stacks, few_near, same_down, stack_is, stack_reach}
use Rattle.relayout.proofs.flow_box.FlowBox.stack.Goals as goal

pub stack-requires : goal.stack-requires
stack-requires g c = few_near c.args.laid.boxes.now c.deref.result.now (c.deref.ensures.value ∙ c.in_ok-children.ensures) c.args.laid.near c.args.laid.few

pub returns-clause-filled : goal.returns-clause-filled
returns-clause-filled g c = λ list are.
    let own = c.args.self.now in
    let styled = c.contained_style.ensures in
    let inside = containing_of own.node.now.style in
    let P : ParentEdges → Type 0 = λ joins. Stacks joins c.deref.result.now c.in_ok-stacked.stacked in
    stack_is inside (edges (block_box own.containing own.node.now.style own.c false)) c.args.size c.args.laid.boxes.now list c.deref.result.now c.in_ok-stacked.stacked c.places.result.now c.in_ok-parts.parts _ _ _ _
    are (c.deref.ensures.value ∙ c.in_ok-children.ensures) (subst P (c.edges-joins.ensures ∙ ap edges (rw (styled.containing, styled.style, styled.sizes) at c.block_box.ensures)) c.in_ok-stacked.ensures.stack) c.places.ensures
    (c.in_ok-parts.ensures ∙ same_down c.of-inside.result inside _ c.args.size (map as_laid c.args.laid.boxes.now) c.places.result.now (c.of-inside.ensures ∙ ap containing_of c.deref-2.ensures) (to_z-of_z w64 c.args.size c.ranges.size))
    (to_z-of_z w64 c.extent.result (search rules) ∙ c.extent.ensures) c.start.ensures c.end.ensures c.through.ensures

pub returns-clause-reach : goal.returns-clause-reach
returns-clause-reach g c = λ reach deep.
    stack_reach c.of-inside.result _ c.args.size c.args.laid.boxes.now c.deref.result.now c.places.result.now _ c.in_ok-stacked.stacked reach (to_z-of_z w64 c.args.size c.ranges.size) c.requires
    (c.deref.ensures.value ∙ c.in_ok-children.ensures) c.args.laid.near deep c.in_ok-stacked.ensures.within c.places.ensures c.in_ok-parts.ensures
