use Rattle.std.proofs.Common.{rules, ◌≡◌, ◌∙◌, w64, to_z, of_z, FitsSigned}
use Rattle.std.proofs.lemmas.Int.{to_z-of_z}
use Rattle.relayout.proofs.InlineLaws.{given_place}
use Rattle.relayout.proofs.styled.ChildStyle.orthogonal_place.Goals as goal

pub returns-clause-value : goal.returns-clause-value
returns-clause-value c =
    let own = c.args.self.now in
    let fits : FitsSigned w64 c.inline_equation.result.start = search rules in
    let inline : FitsSigned w64 own.inline = search rules in
    let i : to_z w64 (of_z w64 own.inline) ≡ own.inline = to_z-of_z w64 own.inline inline in
    let e : to_z w64 (of_z w64 c.args.extent) ≡ c.args.extent = to_z-of_z w64 c.args.extent c.ranges.extent in
    to_z-of_z w64 c.inline_equation.result.start fits
    ∙ given_place c.inline_equation.result own.inline _ c.args.extent _ _ _ _ _ c.inline_equation.ensures.value i e c.start_margin-start.ensures.value c.end_margin-end.ensures.value
