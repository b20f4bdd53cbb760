-- The limit of boxes: when a tree of styles passes it, and what is told of it.
use Rattle.std.specs.Prelude.{◌≡◌, ℕ, List, [], codes, Some, Result, Ok, Err, ⊤}
use Rattle.style_types.specs.Tree.{Nodes}
use Rattle.box_gen.specs.declared.limit.BoxLimit.{BoxLimit}
use Rattle.box_gen.specs.declared.limit.BoxLimit.TheVariants.{TooManyOrthogonal}
use Rattle.box_gen.specs.Orthogonal.{IsLeastOf, root_past}

-- the word that a line of refusal has for it, and the number of the node
unfoldable pub limit_word : BoxLimit → List ℕ
limit_word (TooManyOrthogonal number) = codes "TooManyOrthogonal"

abbrev pub limit_node : BoxLimit → ℕ
limit_node (TooManyOrthogonal number) = number

-- a tree of styles passes it, and this is the least number of the node of such a box
abbrev pub Passes : Nodes → BoxLimit → Type 0
Passes nodes (TooManyOrthogonal number) = IsLeastOf (root_past nodes) (Some number)

-- no box passes it
pub record IsWithinLimits (nodes : Nodes) : Type 0 where
  pub turns : root_past nodes ≡ []

-- it isn't passed, or so
abbrev pub ChecksBoxes : Nodes → Result ⊤ BoxLimit → Type 0
ChecksBoxes nodes (Ok done) = IsWithinLimits nodes
ChecksBoxes nodes (Err limit) = Passes nodes limit
