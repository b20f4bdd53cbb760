use Rattle.std.proofs.Common.{◌≡◌, ◌∙◌, ap, sym, subst, arith, List, map}
use Rattle.line_place.specs.Line.{Item}
use Rattle.line_place.specs.LineText.{IsLineText, text_of}
use Rattle.line_place.specs.Reach.{item_reach, total}
use Rattle.para_lines.specs.Line.{ItemsOn, items_on}
use Rattle.para_lines.specs.Text.{bare}
use Rattle.para_lines.proofs.TextLines.{items_are_bare}
use Rattle.para_lines.proofs.seated_items.SeatedItemsLineSource.text.Goals as goal

pub line_text-requires-clause-reach : goal.line_text-requires-clause-reach
line_text-requires-clause-reach c =
    let own : ItemsOn = record { seated = c.self.inside.seated; standings = c.self.inside.standings } in
    let e : items_on own ≡ map bare c.self.inside.standings = items_are_bare own c.in-Some.ensures.chains in
    omega (arith, ap (total item_reach) e, ap (λ (o : ItemsOn). total item_reach (items_on o)) c.self.view_is, c.requires)

pub returns-in_ok-made-in-Some : goal.returns-in_ok-made-in-Some
returns-in_ok-made-in-Some c =
    let own : ItemsOn = record { seated = c.self.inside.seated; standings = c.self.inside.standings } in
    let e : items_on own ≡ map bare c.self.inside.standings = items_are_bare own c.in-Some.ensures.chains in
    let P : List Item → Type 0 = λ items. IsLineText (text_of c.in_ok-made-in-Some.made) items in
    subst P (sym e ∙ ap items_on c.self.view_is) (c.in_ok-made-in-Some.ensures c.self.inside.seated.boxes.now c.in-Some.ensures)
