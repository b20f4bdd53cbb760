use Rattle.std.proofs.Common.{ap, ◌∙◌}
use Rattle.place_map.specs.Parts.{parts_of}
use Rattle.place_map.proofs.placed.PlacedPart.children.Goals as goal

pub returns : goal.returns
returns c = ap parts_of c.deref.ensures.value ∙ ap (λ p. p.inner) c.self.view_is
