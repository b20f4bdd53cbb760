-- A rule over a whole sequence, told by what stands before a character (nearest first), by its own class and by
-- what stands after it. All three are the classes as they were before the rule.
use Rattle.std.specs.Prelude.{List, [], ◌∷◌}

abbrev pub each : {X : Type 0} → (List X → X → List X → X) → (before : List X) → List X → List X
each rule before [] = []
each rule before (x ∷ after) = rule before x after ∷ each rule (x ∷ before) after
