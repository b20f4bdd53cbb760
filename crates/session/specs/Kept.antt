-- What is kept of the positions of a document. CSS Positioned Layout 3, 3.1.
use Rattle.std.specs.Prelude.{◌≡◌, false, Option, Some, None}
use Rattle.std.specs.List.{list_any}
use Rattle.std.specs.declared.vec.Vec.{Vec}
use Rattle.style_types.specs.Tree.{Nodes}
use Rattle.place_map.specs.Placed.{Page}
use Rattle.rel_shift.specs.Positions.{has_insets, positions_of}
use Rattle.rel_shift.specs.Shifting.{shift}
use Rattle.style_types.specs.declared.position.Position.{Position}

-- those of this styled tree; none where no element is relatively positioned, since nothing is shifted then
abbrev pub ArePositions : {A : Type 0} → Option (Vec Position A) → Nodes → Type 0
ArePositions None nodes = list_any has_insets (positions_of nodes) ≡ false
ArePositions (Some positions) nodes = positions.items ≡ positions_of nodes

-- a page shifted by those that are kept
abbrev pub shifted_by : {A : Type 0} → Option (Vec Position A) → Page → Page
shifted_by None page = page
shifted_by (Some positions) page = shift page positions.items
