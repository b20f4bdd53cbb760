use Rattle.std.proofs.Common.{◌<◌, ◌∙◌, ap, sym, arith, length, List}
use Rattle.std.proofs.lemmas.List.{get_or-map, length-map}
use Rattle.fragment_types.specs.Item.{Entry}
use Rattle.line_place.specs.Line.{Item}
use Rattle.line_place.specs.LineText.{unit_in}
use Rattle.para_lines.specs.Standing.{Standing, plain}
use Rattle.para_lines.specs.Line.{standing_of}
use Rattle.para_lines.specs.Lines as rule
use Rattle.para_lines.proofs.TextLines.{unit_bare}
use Rattle.para_lines.proofs.seated_items.SeatedItemsLineSource.unit.Goals as goal

pub standing-requires : goal.standing-requires
standing-requires c =
    let own : Standing → Item = λ s. rule.line_item c.args.self.now.seated.boxes.now c.args.self.now.seated.places.now (standing_of c.args.self.now.seated.boxes.now s) in
    omega (arith, length-map c.args.self.now.standings own, c.requires)

pub returns : goal.returns
returns c d =
    let entries : List Entry = c.args.self.now.seated.boxes.now in
    let own : Standing → Item = λ s. rule.line_item entries c.args.self.now.seated.places.now (standing_of entries s) in
    let one : Standing = plain c.standing.result in
    let lt : c.args.place < length c.args.self.now.standings = omega (arith, length-map c.args.self.now.standings own, c.requires) in
    c.in_ok-made.ensures
    ∙ sym (unit_bare entries c.args.self.now.seated.places.now one)
    ∙ ap (λ (s : Standing). unit_in (own s)) (c.standing.ensures one)
    ∙ ap unit_in (sym (get_or-map own c.args.self.now.standings c.args.place one d lt))
