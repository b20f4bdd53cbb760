use Rattle.std.proofs.Common.{rules, ◌∙◌, [], ◌∷◌, w64}
use Rattle.std.proofs.lemmas.Int.{to_z-of_z}
use Rattle.relayout.proofs.BoxedLaws.{starts_are}
use Rattle.relayout.proofs.styled.ContainedStyle.start_margins.Goals as goal

pub returns : goal.returns
returns c = λ starts is.
    let own = c.args.self.now in
    let based = c.based_style.ensures in
    starts_are own.containing own.style.now own.c starts _ c.join.result (c.join.ensures.lists (_ ∷ []) starts c.of.ensures is)
    (to_z-of_z w64 c.margin_or_zero.result (search rules) ∙ rw (based.style, based.base, c.side_in-side.ensures) at c.margin_or_zero.ensures.value)
