use Rattle.std.proofs.Common.{rules, ◌∙◌, [], ◌∷◌, w64}
use Rattle.std.proofs.lemmas.Int.{to_z-of_z}
use Rattle.relayout.proofs.BoxedLaws.{ends_are}
use Rattle.relayout.proofs.styled.ContainedStyle.end_margins.Goals as goal

pub returns-else-through : goal.returns-else-through
returns-else-through c = rw c.if-through.false (λ ends is.
    let own = c.args.self.now in
    let based = c.based_style.ensures in
    ends_are own.containing own.style.now own.c ends _ c.join.result (c.join.ensures.lists (_ ∷ []) ends c.of-else-through.ensures is)
    (to_z-of_z w64 c.margin_or_zero-margin.result (search rules) ∙ rw (based.style, based.base, c.side_in-side.ensures) at c.margin_or_zero-margin.ensures.value))
