use Rattle.std.proofs.Common.{◌∙◌, ap, map, sym}
use Rattle.std.proofs.lemmas.Simd.{map-map}
use Rattle.line_place.specs.Line.{Item}
use Rattle.para_lines.specs.Standing.{Standing}
use Rattle.para_lines.specs.Line.{ItemsOn, items_on, standing_of}
use Rattle.para_lines.specs.Lines as rule
use Rattle.para_lines.proofs.seated_items.SeatedItemsLineSource.levels.Goals as goal

pub returns : goal.returns
returns c =
    let own : Standing → Item = λ s. rule.line_item c.self.inside.seated.boxes.now c.self.inside.seated.places.now (standing_of c.self.inside.seated.boxes.now s) in
    c.levels.ensures
    ∙ sym (map-map (λ (item : Item). item.level) own c.self.inside.standings)
    ∙ ap (λ (o : ItemsOn). map (λ (item : Item). item.level) (items_on o)) c.self.view_is
