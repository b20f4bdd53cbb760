-- The placing: fragments of the flow on the page. Each box is placed by the mode and the used direction of its containing block, from the
-- view down. CSS Writing Modes 4, 6.4.
use Rattle.wm_units.specs.declared.view.View.{View}
use Rattle.fragment_types.specs.Fragment.{Pieces, none, piece}
use Rattle.place_map.specs.declared.frame.Frame.{Frame}
use Rattle.place_map.specs.Frame.{inside, of_view, on_page}
use Rattle.place_map.specs.Placed as page
use Rattle.place_map.specs.Placed.{Page, Parts, part}

-- fragments that are measured from there
abbrev pub placed : Frame → Pieces → Parts
placed frame none = page.none
placed frame (piece name rect kind inner next) =
    part name (on_page frame rect) kind (placed (inside frame kind (on_page frame rect)) inner) (placed frame next)

-- a tree of fragments in a view
abbrev pub place_parts : View → Pieces → Parts
place_parts view none = page.none
place_parts view (piece name rect kind inner next) = placed (of_view view kind) (piece name rect kind inner next)

abbrev pub place : View → Pieces → Page
place view pieces = record { view = view; parts = place_parts view pieces }
