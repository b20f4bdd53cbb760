use Rattle.std.proofs.Common.{subst}
use Rattle.place_map.specs.Bound.{AreIn}
use Rattle.place_map.specs.Parts.{Part, before, none}
use Rattle.place_map.proofs.placed.PlacedPart.bound.Goals as goal

pub returns : goal.returns
returns c = subst (λ (p : Part). AreIn c.self.inside.bound (before p none)) c.self.view_is c.self.invariant
