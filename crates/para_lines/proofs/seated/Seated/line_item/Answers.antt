use Rattle.std.proofs.Common.{rules, ◌∙◌, ap, w64, FitsSigned}
use Rattle.std.proofs.lemmas.Int.{to_z-of_z}
use Rattle.para_lines.specs.Line.{content_in, first_atom}
use Rattle.para_lines.specs.Standing.{plain}
use Rattle.para_lines.proofs.LineLaws.{line_item_is}
use Rattle.para_lines.proofs.seated.Seated.line_item.Goals as goal

pub returns : goal.returns
returns c =
    let fits : FitsSigned w64 c.args.standing.now.extent = search rules in
    let fits-2 : FitsSigned w64 c.round-round.result.shifts = search rules in
    line_item_is c.args.self.now.boxes.now c.args.self.now.places.now (plain c.args.standing.now) c.round-round.result _ _ _ _
    c.round-round.ensures.is (to_z-of_z w64 c.args.standing.now.extent fits) c.seat_of.ensures c.is_space.ensures
    (c.content-what.ensures ∙ ap (λ z. content_in z c.args.standing.now.item.now.what (first_atom c.args.standing.now.atoms.now)) (to_z-of_z w64 c.round-round.result.shifts fits-2))
