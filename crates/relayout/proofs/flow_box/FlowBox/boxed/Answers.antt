use Rattle.std.proofs.Common.{rules, ◌≡◌, ◌∙◌, ap, w64, to_z, of_z, FitsSigned}
use Rattle.std.proofs.lemmas.Int.{to_z-of_z}
use Rattle.fragment_types.specs.declared.fragment.BoxPart.{BoxPart}
use Rattle.fragment_types.specs.Fragment.{block, pieces_of}
use Rattle.box_arena.specs.At.{node_of}
use Rattle.relayout.specs.Boxed.{block_size, border_box, content_area}
use Rattle.relayout.proofs.BoxedLaws.{boxed_is, part_with, same_sizes}
use Rattle.relayout.proofs.flow_box.FlowBox.boxed.Goals as goal

pub returns-clause-part : goal.returns-clause-part
returns-clause-part c = λ filled is.
    let own = c.args.self.now in
    let style = own.node.now.style in
    let styled = c.contained_style-own.ensures in
    let fits : FitsSigned w64 c.args.content.extent = search rules in
    let content : to_z w64 (of_z w64 c.args.content.extent) ≡ c.args.content.extent = to_z-of_z w64 c.args.content.extent fits in
    let size : to_z w64 (of_z w64 c.args.size) ≡ c.args.size = to_z-of_z w64 c.args.size c.ranges.size in
    let extent : to_z w64 (of_z w64 c.block_size-extent.result) ≡ c.block_size-extent.result = to_z-of_z w64 c.block_size-extent.result (search rules) in
    boxed_is own.containing (node_of own.node.now) own.c c.args.size c.args.content filled _ _ _ _ _ _ _ _ _ c.block_size-extent.result c.block_box.result is
    (rw c.deref.ensures at (c.in_ok-made.ensures
    ∙ ap (λ (part : BoxPart). part_with own.node.now.name c.border_box-rect.result (block part.mode part.dir part.content part.definite part.start part.end part.through) (pieces_of c.args.content.parts.items)) c.in_ok-shared.ensures.ok))
    is.parts
    ((rw (styled.containing, styled.style, styled.sizes) at c.block_size-extent.ensures.value) ∙ ap (block_size own.containing style own.c) content)
    (rw (styled.containing, styled.style, styled.sizes) at c.block_box.ensures)
    c.is_through-through.ensures
    ((rw (styled.containing, styled.style, styled.sizes) at c.border_box-rect.ensures) ∙ same_sizes (border_box own.containing style own.c) _ _ _ _ size extent)
    ((rw (styled.containing, styled.style, styled.sizes) at c.content_area.ensures) ∙ same_sizes (content_area own.containing style own.c) _ _ _ _ size extent)
    (rw c.deref-2.ensures at c.used_direction.ensures) c.handed_on.ensures.value
    (rw (styled.containing, styled.style, styled.sizes) at (c.start_margins.ensures filled.starts is.start))
    (rw (styled.containing, styled.style, styled.sizes) at (c.end_margins.ensures filled.ends is.end_))
