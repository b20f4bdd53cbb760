use Rattle.std.proofs.Common.{ap}
use Rattle.place_map.proofs.placed.PlacedPart.rect.Goals as goal

pub returns : goal.returns
returns c = ap (λ p. p.rect) c.self.view_is
