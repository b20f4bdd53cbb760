-- Trees of fragments whose coordinates stay within 2^60 of 0, in the flow and on the page.
use Rattle.std.specs.Prelude.{⊤, ◌<◌, ◌^◌, ◌+ℤ◌, unsigned_abs}
use Rattle.wm_modes.specs.Near.{IsNear, IsNearFlow}
use Rattle.wm_modes.specs.declared.rects.FlowRect.{FlowRect}
use Rattle.wm_modes.specs.declared.rects.Rect.{Rect}
use Rattle.fragment_types.specs.Fragment.{Kind, block, line, span, run, measure, Pieces, none, piece}
use Rattle.place_map.specs.declared.frame.Frame.{Frame}
use Rattle.place_map.specs.Frame.{inside, on_page}
use Rattle.place_map.specs.Parts as page
use Rattle.place_map.specs.Parts.{Parts, part}

abbrev pub IsNearFrame : Frame → Type 0
IsNearFrame frame = IsNear frame.area

-- the content area of a box
abbrev pub IsNearKind : Kind → Type 0
IsNearKind (block mode dir content definite start end_ through) = IsNearFlow content
IsNearKind (line index base mode baseline) = ⊤
IsNearKind span = ⊤
IsNearKind (run form level natural units) = ⊤
IsNearKind (measure min max) = ⊤

pub record IsNearPart (frame : Frame) (rect : FlowRect) (kind : Kind) : Type 0 where
  pub here : IsNearFrame frame
  pub flow : IsNearFlow rect
  pub page : IsNear (on_page frame rect)
  pub content : IsNearKind kind

-- these fragments and all inside them, measured from there
abbrev pub AreNear : Frame → Pieces → Type 0
AreNear frame none = ⊤
AreNear frame (piece name rect kind inner next) =
    IsNearPart frame rect kind × AreNear (inside frame kind (on_page frame rect)) inner × AreNear frame next

-- the right and the bottom edge of a rectangle are numbers of 64 bits
pub record HasEdges (rect : Rect) : Type 0 where
  pub right : unsigned_abs (rect.x +ℤ rect.w) < 2 ^ 63
  pub bottom : unsigned_abs (rect.y +ℤ rect.h) < 2 ^ 63

-- these parts of a page and all inside them: no coordinate is further than 2^60 from 0
abbrev pub AreNearParts : Parts → Type 0
AreNearParts page.none = ⊤
AreNearParts (part name rect kind inner next) = IsNear rect × IsNearKind kind × AreNearParts inner × AreNearParts next
