use Rattle.std.proofs.Common.{arith, ap, length}
use Rattle.std.proofs.lemmas.List.{length-map}
use Rattle.para_lines.specs.Line.{ItemsOn, items_on, standing_of}
use Rattle.para_lines.specs.Lines as rule
use Rattle.para_lines.proofs.seated_items.SeatedItemsLineSource.count.Goals as goal

pub returns : goal.returns
returns c =
    omega (
      arith,
      length-map c.self.inside.standings (λ s. rule.line_item c.self.inside.seated.boxes.now c.self.inside.seated.places.now (standing_of c.self.inside.seated.boxes.now s)),
      ap (λ (o : ItemsOn). length (items_on o)) c.self.view_is,
    )
