-- Content areas have sizes that can be a containing block's.
use Rattle.std.specs.Prelude.{⊤, List, Option, ℤ}
use Rattle.face_api.specs.Table.{Table}
use Rattle.style_types.specs.Style.{IsExtent}
use Rattle.fragment_types.specs.Fragment.{IsSizedKind, Pieces, none, piece}
use Rattle.box_gen.specs.Tree.{Boxes}
use Rattle.relayout.specs.Flow.{layout}

-- those of these fragments and of all that stand inside them
abbrev pub AreSizedPieces : Pieces → Type 0
AreSizedPieces none = ⊤
AreSizedPieces (piece name rect kind inner next) = IsSizedKind kind × AreSizedPieces inner × AreSizedPieces next

-- whatever boxes stand in a view whose block size can be a containing block's
abbrev pub LayoutsAreSized : Type 0
LayoutsAreSized = (faces : List (Option Table)) (inline_size block_size : ℤ) (boxes : Boxes) → IsExtent block_size → AreSizedPieces (layout faces inline_size block_size boxes)
