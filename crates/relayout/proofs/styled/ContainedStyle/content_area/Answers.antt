use Rattle.std.proofs.Common.{rules, ◌∙◌, ap, w64}
use Rattle.std.proofs.lemmas.Int.{to_z-of_z}
use Rattle.relayout.specs.Boxed.{edge_on, near_block, near_inline}
use Rattle.relayout.proofs.BoxedLaws.{content_area_is}
use Rattle.relayout.proofs.styled.ContainedStyle.content_area.Goals as goal

pub returns : goal.returns
returns c =
    let own = c.args.self.now in
    content_area_is own.containing own.style.now own.c c.args.size c.args.extent c.turned.result _ _ _ _ _ c.turned.ensures c.is_parallel.ensures
    (to_z-of_z w64 c.edge_on.result (search rules) ∙ c.edge_on.ensures ∙ ap (edge_on own.containing own.style.now own.c) (c.near_inline.ensures ∙ ap near_inline c.is_atom-atom.ensures))
    (to_z-of_z w64 c.edge_on-2.result (search rules) ∙ c.edge_on-2.ensures ∙ ap (edge_on own.containing own.style.now own.c) (c.near_block.ensures ∙ ap near_block c.is_atom-atom.ensures))
    (to_z-of_z w64 c.args.size c.ranges.size) (to_z-of_z w64 c.args.extent c.ranges.extent)
