use Rattle.std.proofs.Common.{rules, ◌∙◌, ap, w64, FitsSigned}
use Rattle.std.proofs.lemmas.Int.{to_z-of_z}
use Rattle.relayout.specs.declared.sizes.Sizes.{Sizes}
use Rattle.relayout.specs.Sizes.{given}
use Rattle.relayout.proofs.BoxedLaws.{block_box_is}
use Rattle.relayout.proofs.styled.ContainedStyle.block_box.Goals as goal

pub returns : goal.returns
returns c =
    let own = c.args.self.now in
    let based = c.based_style-based.ensures in
    let fits : FitsSigned w64 c.block_sizes-sizes.result.min = search rules in
    block_box_is own.containing own.style.now own.c c.args.lines _ _ _ _ _
    c.is_flow_root.ensures
    (rw (based.style, based.base, c.side_in.ensures) at c.edge_at.ensures)
    (rw (based.style, based.base, c.side_in-2.ensures) at c.edge_at-2.ensures)
    (c.given.ensures.value ∙ ap given c.block_sizes-sizes.ensures)
    (to_z-of_z w64 c.block_sizes-sizes.result.min fits ∙ ap (λ (s : Sizes). s.min) c.block_sizes-sizes.ensures)
