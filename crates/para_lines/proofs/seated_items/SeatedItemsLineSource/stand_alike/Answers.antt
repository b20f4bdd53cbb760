use Rattle.std.proofs.Common.{◌∙◌, refl, sym, true, false}
use Rattle.std.specs.Prelude.{slice_index_or}
use Rattle.line_place.specs.Runs.{is_place}
use Rattle.para_lines.specs.Standing.{Standing, plain}
use Rattle.para_lines.specs.Line.{seat_in}
use Rattle.para_lines.proofs.LineLaws.{alike_at}
use Rattle.para_lines.proofs.seated_items.SeatedItemsLineSource.stand_alike.Goals as goal

pub returns-then-are_alike : goal.returns-then-are_alike
returns-then-are_alike c d =
    let one : Standing = plain c.standing.result in
    alike_at c.args.self.now c.args.place c.args.other one (plain c.standing-2.result) true c.stand_together.result d c.requires.place c.requires.other
    (c.standing.ensures one) (c.standing-2.ensures one) (sym c.if-are_alike.true ∙ c.are_alike.ensures) (c.stand_together.ensures one)

pub returns-else-are_alike : goal.returns-else-are_alike
returns-else-are_alike c d =
    let one : Standing = plain c.standing.result in
    c.if-are_alike.false
    ∙ alike_at c.args.self.now c.args.place c.args.other one (plain c.standing-2.result) false
    (is_place (seat_in c.args.self.now (slice_index_or c.args.self.now.standings c.args.place one)) (seat_in c.args.self.now (slice_index_or c.args.self.now.standings c.args.other one)))
    d c.requires.place c.requires.other (c.standing.ensures one) (c.standing-2.ensures one) (sym c.if-are_alike.false ∙ c.are_alike.ensures) refl
