use Rattle.std.proofs.Common.{ap}
use Rattle.place_map.proofs.placed.PlacedPart.name.Goals as goal

pub returns : goal.returns
returns c = ap (λ p. p.name) c.self.view_is
