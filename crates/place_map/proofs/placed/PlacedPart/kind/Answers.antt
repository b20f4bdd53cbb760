use Rattle.std.proofs.Common.{ap}
use Rattle.place_map.proofs.placed.PlacedPart.kind.Goals as goal

pub returns : goal.returns
returns c = ap (λ p. p.kind) c.self.view_is
