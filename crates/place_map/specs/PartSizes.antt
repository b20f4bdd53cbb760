-- Each fragment has fewer inside it than stand where it does.
use Rattle.std.specs.Prelude.{◌+◌, ◌≤◌, List, [], ◌∷◌}
use Rattle.std.proofs.Common.{arith}
use denote.Param.Weighed.{most}
use Rattle.place_map.specs.Parts.{Part, count, parts_of}

pub most_below : (parts : List Part) → most (λ p. count p.inner + 1) parts ≤ count (parts_of parts)
most_below [] = omega arith
most_below (p ∷ parts) = omega (arith, most_below parts)
